-- A name stands for one request.
use Rattle.std.proofs.Common.{◌≡◌, ◌==◌, ◌<◌, ◌≤◌, ◌^◌, ◌++◌, ℕ, List, [], ◌∷◌, cond, get_or, codes, decimal, arith, sym, ap, refl, ◌∙◌}
use Rattle.std.specs.Str.Parse.{AllDigits}
use Rattle.std.specs.Str.{bytes_eq}
use Rattle.std.proofs.lemmas.Str.Parse.{digit_from_value}
use Rattle.std.proofs.lemmas.Fmt.{decimal_is_IsNumeral, decimal_injective}
use Rattle.std.proofs.lemmas.Bool.Decides.{same_from_decides, Decides-eqb, Decides-like}
use Rattle.std.proofs.lemmas.Slice.Eq.{bytes_eq-Decides}
use Rattle.protocol.specs.Limits.{last_number}
use Rattle.folders.specs.Offers.{kind_word}
use Rattle.folders.specs.declared.names.OfferKind.{OfferKind}
use Rattle.folders.specs.declared.names.OfferKind.TheVariants.{Tape, Text, Withdraw, Seek}
use Rattle.folders.specs.declared.names.FileRequest.{FileRequest}
use Rattle.offers.specs.Order.{rank, kind_rank}
use Rattle.looks.specs.Names.{name_of, IsRequest}

-- digits that end at a dot end there in one way
split :
    (xs ys a b : List ℕ) → AllDigits 10 xs → AllDigits 10 ys → xs ++ (46 ∷ a) ≡ ys ++ (46 ∷ b) → (xs ≡ ys) × (a ≡ b)
split [] [] a b p q e = (cc, cc)
split [] (y ∷ ys) a b p q e = let same : 46 ≡ y = cc in absurd (omega (arith, digit_from_value y q.0, same))
split (x ∷ xs) [] a b p q e = let same : x ≡ 46 = cc in absurd (omega (arith, digit_from_value x p.0, same))
split (x ∷ xs) (y ∷ ys) a b p q e =
    let first : x ≡ y = cc in
    let rest : xs ++ (46 ∷ a) ≡ ys ++ (46 ∷ b) = cc in
    let more = split xs ys a b p.1 q.1 rest in (cc, more.1)

-- the end of a name behind its dot, and the place of its kind by that
abbrev kind_end : OfferKind → List ℕ
kind_end Tape = codes "tape"
kind_end Text = codes "text"
kind_end Withdraw = codes "withdraw"
kind_end Seek = codes "seek"

abbrev place_of_end : List ℕ → ℕ
place_of_end word = let letter = get_or word 2 0 in cond (letter == 112) 0 (cond (letter == 120) 1 (cond (letter == 116) 2 3))

ends : (kind : OfferKind) → kind_word kind ≡ 46 ∷ kind_end kind
ends Tape = refl
ends Text = refl
ends Withdraw = refl
ends Seek = refl

placed : (kind : OfferKind) → place_of_end (kind_end kind) ≡ kind_rank kind
placed Tape = refl
placed Text = refl
placed Withdraw = refl
placed Seek = refl

-- the end of a name by the place of its kind
abbrev end_at : ℕ → List ℕ
end_at place = cond (place == 0) (codes ".tape") (cond (place == 1) (codes ".text") (cond (place == 2) (codes ".withdraw") (codes ".seek")))

ended : (kind : OfferKind) → end_at (kind_rank kind) ≡ kind_word kind
ended Tape = refl
ended Text = refl
ended Withdraw = refl
ended Seek = refl

within : (kind : OfferKind) → kind_rank kind ≤ 3
within Tape = omega arith
within Text = omega arith
within Withdraw = omega arith
within Seek = omega arith

-- of one name one place
one_place : (r s : FileRequest) → r.number ≤ last_number → s.number ≤ last_number → name_of r ≡ name_of s → rank r ≡ rank s
one_place r s p q e =
    let small : r.number < 2 ^ 64 = omega (arith, p) in
    let low : s.number < 2 ^ 64 = omega (arith, q) in
    let dots : decimal r.number ++ (46 ∷ kind_end r.kind) ≡ decimal s.number ++ (46 ∷ kind_end s.kind) =
    sym (ap (λ (w : List ℕ). decimal r.number ++ w) (ends r.kind)) ∙ e ∙ ap (λ (w : List ℕ). decimal s.number ++ w) (ends s.kind) in
    let both = split (decimal r.number) (decimal s.number) (kind_end r.kind) (kind_end s.kind) (decimal_is_IsNumeral r.number small).0.1 (decimal_is_IsNumeral s.number low).0.1 dots in
    let number : r.number ≡ s.number = decimal_injective r.number s.number small low both.0 in
    let kind : kind_rank r.kind ≡ kind_rank s.kind = sym (placed r.kind) ∙ ap place_of_end both.1 ∙ placed s.kind in
    omega (arith, number, kind)

-- of one place one name
one_name : (r s : FileRequest) → rank r ≡ rank s → name_of r ≡ name_of s
one_name r s e =
    let low = within r.kind in
    let high = within s.kind in
    let number : r.number ≡ s.number = omega (arith, e, low, high) in
    let kind : kind_rank r.kind ≡ kind_rank s.kind = omega (arith, e, low, high) in
    let word : kind_word r.kind ≡ kind_word s.kind = sym (ended r.kind) ∙ ap end_at kind ∙ ended s.kind in
    ap (λ (n : ℕ). decimal n ++ kind_word r.kind) number ∙ ap (λ (w : List ℕ). decimal s.number ++ w) word

-- two requests have one name just where they have one place
pub same_name : (r s : FileRequest) → IsRequest r → IsRequest s → bytes_eq (name_of r) (name_of s) ≡ (rank r == rank s)
same_name r s p q =
    same_from_decides (bytes_eq (name_of r) (name_of s)) (rank r == rank s) (bytes_eq-Decides (name_of r) (name_of s))
    (Decides-like (rank r == rank s) (one_name r s) (one_place r s p.1 q.1) (Decides-eqb (rank r) (rank s)))
