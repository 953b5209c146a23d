-- The station whose file it is, and the check that depends on it.
use Rattle.std.specs.Prelude.{ℕ, ◌+◌, ◌*◌, ◌%◌, ◌<◌, [], ◌∷◌, ◌++◌}
use Rattle.std.specs.Int.{w16, w32, to_be_bytes, from_be_bytes}
use Rattle.protocol.specs.Ballots.{IsMember}
use Rattle.protocol.specs.Limits.{most_members}
use Rattle.gone_out.specs.declared.origin.Origin.{Origin}

-- what has a head: each field is in its range
pub record IsOrigin (o : Origin) : Type 0 where
  pub circuit : o.circuit < 65536
  pub member : IsMember most_members o.member
  pub count : o.count < 256

-- its four bytes in the head, the circuit in two, the member and the count, read as a number
abbrev pub word : Origin → ℕ
word o = from_be_bytes w32 (to_be_bytes w16 o.circuit ++ o.member ∷ o.count ∷ [])

-- the check of a number: the sum of both is hashed by multiplication (Knuth). The factor is odd, so that no two sums have one check
abbrev pub check : Origin → ℕ → ℕ
check o n = 2654435761 * (word o + n) % 4294967296
