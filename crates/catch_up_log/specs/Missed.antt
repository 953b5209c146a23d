-- Numbers that were found missing and are asked for, and what is told of them.
use Rattle.std.specs.Prelude.{◌≡◌, ◌≤◌, ◌<◌, ◌⊎◌, ◌&&◌, ℕ, Bool, true, false, List, [], Option, Some, None, is_some, if◌then◌else◌}
use Rattle.std.specs.List.{range_with_len}
use Rattle.streams.specs.Fronts.{AppendsFront}
use Rattle.protocol.specs.Limits.{last_number}
use Rattle.gone_out.specs.Numbers.{has, how_many}
use Rattle.plant_log.specs.Words.{no_memory}
use Rattle.plant_log.specs.Differing.{is_time}
use Rattle.plant_log.specs.Telling.{TellsEach, WasTold}
use Rattle.catch_up_log.specs.declared.missed.Missed.{Missed}
use Rattle.catch_up_log.specs.Words.{missed_ranges_text, missed_text}
use Rattle.catch_up_log.specs.Ranges.{NamesRanges}

-- none waits, and none was told
abbrev pub no_missed : Missed
no_missed = record { waiting = None; told = None }

-- the set has this number, and else those of the other
abbrev pub IsWith : List Bool → ℕ → List Bool → Type 0
IsWith old number new = (has new number ≡ true) × ((n : ℕ) → ¬ (n ≡ number) → has new n ≡ has old n)

-- the number waits beside those that do; where none does there may be no memory for it, and then none waits
abbrev pub AddsTo : Option (List Bool) → ℕ → Option (List Bool) → Type 0
AddsTo (Some old) number (Some new) = IsWith old number new
AddsTo None number (Some new) = IsWith [] number new
AddsTo None number None = Unit {0}
AddsTo (Some old) number None = ⊥

-- the circuit numbers, rising
unfoldable pub all_numbers : List ℕ
all_numbers = range_with_len 1 last_number

-- of each circuit number in turn its line, where it is in the set
abbrev pub TellsNumbers : List Bool → Option (List ℕ) → Option (List ℕ) → Type 0
TellsNumbers flags old new = TellsEach (λ n. has flags n ≡ true) missed_text all_numbers old new

-- one line that names the ranges of the set, or that there was no memory for it
abbrev pub TellsRanges : List Bool → Option (List ℕ) → Option (List ℕ) → Type 0
TellsRanges flags old new = ((names : List ℕ) × NamesRanges [] flags names × WasTold (missed_ranges_text names) old new) ⊎ AppendsFront old new no_memory

-- where at most 8 are in the set a line for each of them, and else one for all
abbrev pub TellsMissed : List Bool → Option (List ℕ) → Option (List ℕ) → Type 0
TellsMissed flags old new = (how_many flags ≤ 8 → TellsNumbers flags old new) × (8 < how_many flags → TellsRanges flags old new)

-- where it is time, those that wait are told, if some do, and else nothing is
abbrev pub TellsSome : Option (List Bool) → Bool → Option (List ℕ) → Option (List ℕ) → Type 0
TellsSome None time old new = new ≡ old
TellsSome (Some flags) false old new = new ≡ old
TellsSome (Some flags) true old new = TellsMissed flags old new

-- it is time where none was told in the last second
abbrev pub TellsWaiting : Missed → ℕ → Option (List ℕ) → Option (List ℕ) → Type 0
TellsWaiting m now old new = TellsSome m.waiting (is_time m.told now) old new

-- whether some are told at a moment
abbrev pub are_told : Missed → ℕ → Bool
are_told m now = is_some m.waiting && is_time m.told now

-- once they are told none waits, and else all is as it was
abbrev pub missed_after : Missed → ℕ → Missed
missed_after m now = if are_told m now then record { waiting = None; told = Some now } else m
