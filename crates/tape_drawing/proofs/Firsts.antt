-- The first answer of a list, as far as it was gone through.
use Rattle.std.proofs.Common.{◌≡◌, ℕ, zero, suc, ◌+◌, ◌<◌, List, [], ◌∷◌, ◌++◌, length, take, get_or, Option, Some, None, refl, sym, ap, ◌∙◌, arith}
use Rattle.std.proofs.lemmas.List.{take_more}
use Rattle.slug_reader.specs.Positions.{or_else, first}

none_both : {A : Type 0} (x y : Option A) → or_else x y ≡ None → (x ≡ None) × (y ≡ None)
none_both None y e = (refl, e)
none_both (Some x) y e = absurd cc

-- the answer of an item that follows some without one
pub first_found : {A B : Type 0} (f : A → Option B) (xs : List A) (i : ℕ) (d x : A) (y : B) → first f (take i xs) ≡ None → i < length xs → x ≡ get_or xs i d → f x ≡ Some y → first f xs ≡ Some y
first_found f [] i d x y none lt is e = absurd (omega (arith, lt))
first_found f (z ∷ zs) zero d x y none lt is e = rw (← is, e) refl
first_found f (z ∷ zs) (suc i) d x y none lt is e =
    let apart = none_both (f z) (first f (take i zs)) none in
    rw apart.0 (first_found f zs i d x y apart.1 (omega (arith, lt)) is e)

or_else_none : {A : Type 0} (x : Option A) → or_else x None ≡ x
or_else_none None = refl
or_else_none (Some x) = refl

or_else_assoc : {A : Type 0} (x y z : Option A) → or_else (or_else x y) z ≡ or_else x (or_else y z)
or_else_assoc None y z = refl
or_else_assoc (Some x) y z = refl

pub first_push : {A B : Type 0} (f : A → Option B) (xs : List A) (x : A) → first f (xs ++ x ∷ []) ≡ or_else (first f xs) (f x)
first_push f [] x = or_else_none (f x)
first_push f (y ∷ xs) x = ap (or_else (f y)) (first_push f xs x) ∙ sym (or_else_assoc (f y) (first f xs) (f x))

-- none, with one item more that has none
pub first_none : {A B : Type 0} (f : A → Option B) (xs : List A) (i : ℕ) (d x : A) → first f (take i xs) ≡ None → i < length xs → x ≡ get_or xs i d → f x ≡ None → first f (take (i + 1) xs) ≡ None
first_none f xs i d x none lt is e = rw (take_more xs i d lt, ← is, first_push f (take i xs) x, none, e) refl
