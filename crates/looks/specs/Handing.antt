-- What a look hands out that has come to its end.
use Rattle.std.specs.Prelude.{◌≡◌, ◌||◌, Bool, false, length, nat_lt}
use Rattle.looks.specs.declared.gathering.EndedLook.{EndedLook}
use Rattle.looks.specs.Gathering.{GatheringValue, IsGathering}

-- all that was found is handed out, each request at its own place and once, and of the others none that asks for something or is left
-- alone; there was memory for all of it
pub record Hands (g : GatheringValue) (seen : EndedLook) : Type 0 where
  pub requests : seen.requests ≡ g.requests
  pub sound : IsGathering g.requests g.strays
  pub strays : seen.strays.entries ≡ g.strays
  pub others : seen.others.entries ≡ g.others
  pub skipped : seen.skipped ≡ g.skipped
  pub whole : g.is_broken ≡ false

-- more of a kind was found than is taken in in one turn
abbrev pub is_crowded : EndedLook → Bool
is_crowded seen = nat_lt 512 (length seen.requests) || nat_lt 512 (length seen.strays.entries) || nat_lt 512 (length seen.others.entries)
