-- What is told of the numbers that may be missing.
use Rattle.std.specs.Prelude.{◌≡◌, ◌≤◌, ◌⊎◌, ℕ, Bool, List, Option, codes}
use Rattle.streams.specs.Fronts.{AppendsFront}
use Rattle.gone_out.specs.Numbers.{how_many}
use Rattle.plant_log.specs.Words.{no_memory}
use Rattle.plant_log.specs.Telling.{WasTold}
use Rattle.catch_up_log.specs.Words.{missing_text}
use Rattle.catch_up_log.specs.Ranges.{NamesRanges}

-- the line that says how many the set has, and names its ranges as the searches that an editor may lay for them
abbrev pub TellsSet : List Bool → Option (List ℕ) → Option (List ℕ) → Type 0
TellsSet flags old new = (names : List ℕ) × NamesRanges (codes ".seek") flags names × WasTold (missing_text (how_many flags) names) old new

-- that line, or that there was no memory for it, where the set has a number, and else nothing
abbrev pub TellsMissing : List Bool → Option (List ℕ) → Option (List ℕ) → Type 0
TellsMissing flags old new = (1 ≤ how_many flags → TellsSet flags old new ⊎ AppendsFront old new no_memory) × (how_many flags ≡ 0 → new ≡ old)
