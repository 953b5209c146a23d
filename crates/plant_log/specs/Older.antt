-- Members whose rows are of layout 1, where those of this station are of layout 2, and of which of them that was told.
use Rattle.std.specs.Prelude.{◌≡◌, ℕ, Bool, true, false, replicate, slice_index_or}
use Rattle.plant_log.specs.declared.older.Older.{Older}

-- it was told of this member
abbrev pub was_told : Older → ℕ → Bool
was_told older member = slice_index_or older.told member false

-- it was told of no member
abbrev pub none_told : Older
none_told = record { told = replicate 16 false }

-- it was told of this member, if not before, and of no other
pub record IsToldOf (member : ℕ) (old new : Older) : Type 0 where
  pub same : was_told new member ≡ true
  pub others : (other : ℕ) → ¬ (other ≡ member) → was_told new other ≡ was_told old other
