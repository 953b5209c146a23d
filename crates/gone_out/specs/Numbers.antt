-- A set of circuit numbers as flags, one for each.
use Rattle.std.specs.Prelude.{◌≡◌, ℕ, ◌*◌, ◌/◌, ◌%◌, Bool, false, List, length, map, ◌==◌, slice_index, slice_index_or, count_by}
use Rattle.std.specs.List.{range_with_len}
use Rattle.std.specs.Int.{bit_at}

-- whether a number is in the set
abbrev pub has : List Bool → ℕ → Bool
has flags n = slice_index_or flags n false

-- how many numbers are in the set
unfoldable pub how_many : List Bool → ℕ
how_many flags = count_by (λ b. b) flags

-- none is in the set
abbrev pub IsEmpty : List Bool → Type 0
IsEmpty flags = (n : ℕ) → has flags n ≡ false

-- bit n of words, counted from the lowest of the first
abbrev pub bit_of : List ℕ → ℕ → Bool
bit_of words n = bit_at (slice_index words (n / 64)) (n % 64) == 1

-- the flags that words of 64 bits are
unfoldable pub flags_of : List ℕ → List Bool
flags_of words = map (bit_of words) (range_with_len 0 (64 * length words))
