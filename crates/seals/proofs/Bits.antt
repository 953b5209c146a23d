-- Bits that are changed nowhere.
use Rattle.std.proofs.Common.{◌≡◌, ℕ, ◌+◌, ◌<◌, List, [], ◌∷◌, ◌++◌, length, take, get_or, sym, ap, ◌∙◌, arith}
use Rattle.std.specs.Prelude.{◌↔◌, bit_or, bit_xor}
use Rattle.std.specs.Int.Bits.{xor_self, xor_zero_l, xor_zero_r, xor_assoc, or_zero_l}
use Rattle.std.proofs.lemmas.Nat.{le_or_l, le_or_r}
use Rattle.std.proofs.lemmas.List.{take_more, same_from_push}

-- two numbers are the same where no bit of one is changed in the other
same_from_xor : (a b : ℕ) → bit_xor a b ≡ 0 → a ≡ b
same_from_xor a b e = sym (xor_zero_r a) ∙ ap (λ (x : ℕ). bit_xor a x) (sym e) ∙ sym (xor_assoc a a b) ∙ ap (λ (x : ℕ). bit_xor x b) (xor_self a) ∙ xor_zero_l b

-- one byte more
pub same_more : (changed i : ℕ) (xs ys : List ℕ) → i < length xs → i < length ys → (changed ≡ 0) ↔ (take i xs ≡ take i ys) → (bit_or changed (bit_xor (get_or xs i 0) (get_or ys i 0)) ≡ 0) ↔ (take (i + 1) xs ≡ take (i + 1) ys)
same_more changed i xs ys in_xs in_ys so_far =
    let x = get_or xs i 0 in
    let y = get_or ys i 0 in
    let more_xs = take_more xs i 0 in_xs in
    let more_ys = take_more ys i 0 in_ys in
    let forth : bit_or changed (bit_xor x y) ≡ 0 → take (i + 1) xs ≡ take (i + 1) ys = λ e.
    let low = le_or_l changed (bit_xor x y) in
    let high = le_or_r changed (bit_xor x y) in
    let front = so_far.0 (omega arith) in
    let last = same_from_xor x y (omega arith) in
    more_xs ∙ ap (λ (l : List ℕ). l ++ x ∷ []) front ∙ ap (λ (b : ℕ). take i ys ++ b ∷ []) last ∙ sym more_ys
    in
    let back : take (i + 1) xs ≡ take (i + 1) ys → bit_or changed (bit_xor x y) ≡ 0 = λ e.
    let parts = same_from_push (take i xs) (take i ys) x y (sym more_xs ∙ e ∙ more_ys) in
    ap (λ (n : ℕ). bit_or n (bit_xor x y)) (so_far.1 parts.0) ∙ or_zero_l (bit_xor x y) ∙ ap (λ (b : ℕ). bit_xor b y) parts.1 ∙ xor_self y
    in (forth, back)
