-- Numbers in a row.
use Rattle.std.specs.Prelude.{ℕ, Bool, List, ◌==◌, not, filter}
use Rattle.std.specs.List.{list_any}

-- the number is among these
abbrev pub is_among : List ℕ → ℕ → Bool
is_among numbers n = list_any (λ each. each == n) numbers

-- these numbers, except this one
abbrev pub without : ℕ → List ℕ → List ℕ
without number numbers = filter (λ each. not (each == number)) numbers
