-- Names that are not UTF-8, and when they are told.
use Rattle.std.specs.Prelude.{◌≡◌, ◌+◌, ◌&&◌, ◌||◌, ℕ, List, Bool, true, Option, codes, nat_le, nat_lt, if◌then◌else◌}
use Rattle.plant_log.specs.declared.skipped.Skipped.{Skipped}
use Rattle.plant_log.specs.Words.{folders_text}
use Rattle.plant_log.specs.Telling.{TellsIf}

-- there are more of them than before, or there are some and an hour has passed
abbrev pub is_skipping_told : Skipped → ℕ → ℕ → Bool
is_skipping_told last names now = nat_lt last.names names || (nat_lt 0 names && nat_le (last.at + 3_600_000) now)

-- what was told last from then on
abbrev pub skipped_after : Skipped → ℕ → ℕ → Skipped
skipped_after last names now = record { names = names; at = if is_skipping_told last names now then now else last.at }

-- the line of so many such names, where they are told
abbrev pub TellsSkipped : Skipped → ℕ → ℕ → Option (List ℕ) → Option (List ℕ) → Type 0
TellsSkipped last names now old new = TellsIf (is_skipping_told last names now ≡ true) (folders_text (codes "cannot read a name that is not UTF-8")) old new
