-- Which station saved rows belong to.
use Rattle.std.specs.Prelude.{◌≤◌}
use Rattle.protocol.specs.Limits.{most_members}
use Rattle.rows_saved.specs.declared.identity.Identity.{Identity}

-- the member is one of them, and there are at most 15
pub record IsIdentity (i : Identity) : Type 0 where
  pub low : 1 ≤ i.member
  pub within : i.member ≤ i.members
  pub high : i.members ≤ most_members
