-- The numbers whose files are under way.
use Rattle.std.specs.Prelude.{ℕ, Bool, Option, Some, None, List, [], ◌∷◌, ◌++◌, ◌==◌, position, remove, if◌then◌else◌}

-- one more is under way, where it found a place
abbrev pub with_one : Bool → ℕ → List ℕ → List ℕ
with_one found number numbers = if found then numbers ++ number ∷ [] else numbers

-- without the number at this place
abbrev pub without_at : Option ℕ → List ℕ → List ℕ
without_at None numbers = numbers
without_at (Some place) numbers = remove numbers place

-- without the first that is this number, if one is
abbrev pub without : ℕ → List ℕ → List ℕ
without number numbers = without_at (position (λ each. each == number) numbers) numbers
