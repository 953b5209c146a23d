-- The names of matrices.
use Rattle.std.specs.Prelude.{ℕ, List, [], ◌∷◌, length, Bool, false, not, nat_le, ◌==◌, ◌&&◌}
use Rattle.std.specs.List.{list_all}

-- a byte that prints and is no blank, 0x21 to 0x7E
abbrev pub is_printed : ℕ → Bool
is_printed byte = nat_le 33 byte && nat_le byte 126

-- a matrix's name has 1 to 8 such bytes, and the first is not `@`, with which the names of functions begin
abbrev pub is_name : List ℕ → Bool
is_name [] = false
is_name (first ∷ rest) = not (first == 64) && (nat_le (length (first ∷ rest)) 8 && list_all is_printed (first ∷ rest))
