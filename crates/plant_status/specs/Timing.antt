-- When a status is written, and when it is told that it can't be.
use Rattle.std.specs.Prelude.{ℕ, ◌+◌, Bool, true, nat_le, Option, Some, None, if◌then◌else◌}
use Rattle.plant_status.specs.declared.keeper.Keeper.{Keeper}

-- so long passed since a moment, if there was one
abbrev pub is_past : Option ℕ → ℕ → ℕ → Bool
is_past None span now = true
is_past (Some at) span now = nat_le (at + span) now

-- a member that was heard last at a moment, if it was, is silent for 10 s at another
abbrev pub is_silent : Option ℕ → ℕ → Bool
is_silent at now = is_past at 10_000 now

-- how long a status stands: a second where something changed, and else half a minute
abbrev pub span_of : Bool → ℕ
span_of changed = if changed then 1_000 else 30_000

-- it is time to write a status
abbrev pub is_due : Keeper → ℕ → Bool
is_due k now = is_past k.written (span_of k.is_changed) now

-- it is told that a status can't be written: the first time, and again after an hour
abbrev pub is_told : Option ℕ → ℕ → Bool
is_told told now = is_past told 3_600_000 now
