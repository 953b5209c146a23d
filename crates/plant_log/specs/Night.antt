-- What a number costs the usual log that waits.
use Rattle.std.specs.Prelude.{◌+◌, ◌*◌, ◌≤◌, ℕ, List, [], ◌∷◌, if◌then◌else◌}
use Rattle.plant_log.specs.declared.story.StoryNote.{StoryNote}
use Rattle.plant_log.specs.declared.story.BallotTurn.{BallotTurn}
use Rattle.plant_log.specs.Stories.{first_story, heard}

-- how many lines are told of what befell a number, each thing with its moment, where this was kept in mind of it before
abbrev pub lines : StoryNote → List (BallotTurn × ℕ) → ℕ
lines s [] = 0
lines s (x ∷ xs) = (if (heard s x.0 x.1).is_told then 1 else 0) + lines (heard s x.0 x.1).story xs

-- all of it befell the number from one moment to another
abbrev pub AreWithin : ℕ → ℕ → List (BallotTurn × ℕ) → Type 0
AreWithin a z [] = Unit {0}
AreWithin a z (x ∷ xs) = (a ≤ x.1) × (x.1 ≤ z) × AreWithin a z xs

-- whatever befalls the ballots of a number, and in which order: of so many whole hours as many lines are told, and two
abbrev pub WaitsByTheHour : Type 0
WaitsByTheHour =
    (befell : List (BallotTurn × ℕ)) (a z : ℕ) → a ≤ z → AreWithin a z befell → (hours : ℕ) × (a + hours * 3_600_000 ≤ z) × (lines first_story befell ≤ hours + 2)
