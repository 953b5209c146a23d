-- When a look goes on, what it hands out, and when the next one comes.
use Rattle.std.specs.Prelude.{◌≡◌, ℕ, Bool, true, false, nat_le, nat_lt, not, if◌then◌else◌}
use Rattle.folders.specs.declared.folders.Listing.{Listing}
use Rattle.offers.specs.Stages.{later}
use Rattle.looks.specs.declared.gathering.EndedLook.{EndedLook}
use Rattle.looks.specs.declared.looking.LookStage.{LookStage}
use Rattle.looks.specs.declared.looking.LookStage.TheVariants as stages
use Rattle.looks.specs.Gathering.{GatheringValue, nothing_found, Takes}
use Rattle.looks.specs.Handing.{Hands}

-- before the first look, which is at once
abbrev pub at_start : LookStage
at_start = stages.Rests 0

-- a look goes on
abbrev pub goes_on : LookStage → Bool
goes_on (stages.Rests until) = false
goes_on (stages.GoesOn found was_part) = true

-- it is time to begin a look, or to go on with one
abbrev pub is_due : LookStage → ℕ → Bool
is_due (stages.Rests until) now = nat_le until now
is_due (stages.GoesOn found was_part) now = true

-- the next deed is a part of the look: while one goes on, each second deed is
abbrev pub takes_turn : LookStage → Bool
takes_turn (stages.Rests until) = false
takes_turn (stages.GoesOn found was_part) = not was_part

-- the same once it is known which deed that is
abbrev pub turned : LookStage → LookStage
turned (stages.Rests until) = stages.Rests until
turned (stages.GoesOn found was_part) = stages.GoesOn found (not was_part)

-- what the look found so far; where none goes on, nothing
abbrev pub so_far : LookStage → GatheringValue
so_far (stages.Rests until) = nothing_found
so_far (stages.GoesOn found was_part) = found

-- the last deed was a part of the look
abbrev pub was_turn : LookStage → Bool
was_turn (stages.Rests until) = false
was_turn (stages.GoesOn found was_part) = was_part

-- both
abbrev pub found_by : LookStage → GatheringValue × Bool
found_by was = (so_far was, was_turn was)

-- half a second after a look of several turns; else a tenth of one where it took less than two milliseconds, and a quarter where it did not
abbrev pub rest_after : Bool → ℕ → ℕ
rest_after several took = if several then 500 else if nat_lt took 2 then 100 else 250

-- the look ends at a moment, having taken so long, and the next comes after a rest
abbrev pub rests_after : LookStage → ℕ → ℕ → LookStage
rests_after was took now = stages.Rests (later now (rest_after (goes_on was) took))

-- a look goes on that has found what was found so far and in this turn, as far as there was memory for it
pub record GoesOn (listing : Listing) (was is : LookStage) : Type 0 where
  pub goes : goes_on is ≡ true
  pub turn : was_turn is ≡ was_turn was
  pub takes : (so_far is).is_broken ≡ false → Takes listing (so_far was) (so_far is)

-- all is handed out that was found so far and in this turn
pub record Finds (listing : Listing) (was : LookStage) (seen : EndedLook) : Type 0 where
  pub all : GatheringValue
  pub takes : Takes listing (so_far was) all
  pub hands : Hands all seen
