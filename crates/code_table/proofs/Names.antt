-- A name is ASCII text.
use Rattle.std.proofs.Common.{◌≡◌, ℕ, zero, suc, ◌<◌, true, not, nat_le, ◌==◌, ◌&&◌, IsTrue, List, [], ◌∷◌, length, arith}
use Rattle.std.specs.List.{list_all}
use Rattle.std.specs.Str.{IsUtf8, IsAscii}
use Rattle.std.proofs.lemmas.Str.{IsUtf8-from_ascii}
use Rattle.std.proofs.lemmas.Bool.{and_parts}
use Rattle.std.proofs.lemmas.Bool.Decides.{nat_tests}
use Rattle.code_table.specs.Names.{is_name, is_printed}

is_printed-low : (byte : ℕ) → is_printed byte ≡ true → byte < 128
is_printed-low byte h = grind (arith, nat_tests, and_parts)

printed-IsAscii : (text : List ℕ) → list_all is_printed text ≡ true → IsAscii text
printed-IsAscii [] h i = omega arith
printed-IsAscii (byte ∷ rest) h zero = is_printed-low byte (and_parts _ _ h).0
printed-IsAscii (byte ∷ rest) h (suc i) = printed-IsAscii rest (and_parts _ _ h).1 i

pub is_name_utf8 : (text : List ℕ) → IsTrue (is_name text) → IsUtf8 text
is_name_utf8 [] h = absurd cc
is_name_utf8 (first ∷ rest) h =
    let text = first ∷ rest in
    let few = (and_parts (not (first == 64)) (nat_le (length text) 8 && list_all is_printed text) h).1 in
    IsUtf8-from_ascii text (printed-IsAscii text (and_parts (nat_le (length text) 8) (list_all is_printed text) few).1)
