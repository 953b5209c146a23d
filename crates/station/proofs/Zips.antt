-- Lists, place by place.
use Rattle.std.proofs.Common.{◌≡◌, ◌<◌, ◌≤◌, ◌+◌, ℕ, zero, suc, inl, inr, List, [], ◌∷◌, ◌++◌, Some, length, take, get_or, refl, sym, ap, subst, ◌∙◌, arith}
use Rattle.std.specs.Prelude.{slice_get}
use Rattle.std.specs.List.{AllZip}
use Rattle.protocol.specs.Lists.{IsAmong}
use Rattle.std.proofs.lemmas.List.{take_more, take_all}
use Rattle.std.proofs.lemmas.Slice.Zip.{AllZip-long}

push : {A B : Type 0} (R : A → B → Type 0) (xs : List A) (ys : List B) (x : A) (y : B) → AllZip R xs ys → R x y → AllZip R (xs ++ x ∷ []) (ys ++ y ∷ [])
push R [] [] x y h r = (r, tt)
push R [] (b ∷ ys) x y h r = absurd h
push R (a ∷ xs) [] x y h r = absurd h
push R (a ∷ xs) (b ∷ ys) x y h r = (h.0, push R xs ys x y h.1 r)

-- the front grows by one place
pub more :
    {A B : Type 0} (R : A → B → Type 0) (xs : List A) (ys : List B) (i : ℕ) (x : A) (y : B)
    → i < length xs → x ≡ get_or xs i x → AllZip R (take i xs) ys → R x y → AllZip R (take (i + 1) xs) (ys ++ y ∷ [])
more R xs ys i x y lt is h r =
    subst (λ l. AllZip R l (ys ++ y ∷ [])) (ap (λ z. take i xs ++ z ∷ []) is ∙ sym (take_more xs i x lt)) (push R (take i xs) ys x y h r)

-- at the end all is spelled, and both are as long
pub whole : {A B : Type 0} (R : A → B → Type 0) (xs : List A) (ys : List B) (i : ℕ) → length xs ≤ i → AllZip R (take i xs) ys → AllZip R xs ys
whole R xs ys i past h = subst (λ l. AllZip R l ys) (take_all i xs past) h

pub as_long : {A B : Type 0} (R : A → B → Type 0) (xs : List A) (ys : List B) (i : ℕ) → length xs ≤ i → AllZip R (take i xs) ys → length ys ≡ length xs
as_long R xs ys i past h = AllZip-long R xs ys (whole R xs ys i past h)

-- what stands at a place is among them
pub among : {A : Type 0} (xs : List A) (i : ℕ) (x : A) → slice_get xs i ≡ Some x → IsAmong xs x
among [] i x h = absurd cc
among (y ∷ ys) zero x h = let e : x ≡ y = cc in inl e
among (y ∷ ys) (suc i) x h = inr (among ys i x h)

-- what holds of each pair says less of it
pub weaker : {A B : Type 0} (R S : A → B → Type 0) (xs : List A) (ys : List B) → ((x : A) (y : B) → R x y → S x y) → AllZip R xs ys → AllZip S xs ys
weaker R S [] [] less h = tt
weaker R S [] (y ∷ ys) less h = absurd h
weaker R S (x ∷ xs) [] less h = absurd h
weaker R S (x ∷ xs) (y ∷ ys) less h = (less x y h.0, weaker R S xs ys less h.1)

-- what stands at a place of the second list has its pair in the first
pub paired :
    {A B : Type 0} (R : A → B → Type 0) (xs : List A) (ys : List B) (i j : ℕ) (d : B) → j < length ys → AllZip R (take i xs) ys
    → (x : A) × (slice_get xs j ≡ Some x) × R x (get_or ys j d)
paired R xs [] i j d lt h = absurd (omega (arith, lt))
paired R [] (b ∷ ys) zero j d lt h = absurd h
paired R [] (b ∷ ys) (suc i) j d lt h = absurd h
paired R (a ∷ xs) (b ∷ ys) zero j d lt h = absurd h
paired R (a ∷ xs) (b ∷ ys) (suc i) zero d lt h = (a, refl, h.0)
paired R (a ∷ xs) (b ∷ ys) (suc i) (suc j) d lt h = paired R xs ys i j d (omega (arith, lt)) h.1
