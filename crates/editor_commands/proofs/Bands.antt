-- The first and the last band of one sort more.
use Rattle.std.proofs.Common.{◌≡◌, ℕ, ◌+◌, ◌<◌, List, [], ◌∷◌, ◌++◌, length, take, get_or, Option, Some, None, refl, sym, ◌∙◌, ap}
use Rattle.std.proofs.lemmas.List.{take_more}
use Rattle.slug_reader.specs.Positions.{or_else, first, last}

or_else_none : {A : Type 0} (x : Option A) → or_else x None ≡ x
or_else_none None = refl
or_else_none (Some x) = refl

or_else_assoc : {A : Type 0} (x y z : Option A) → or_else (or_else x y) z ≡ or_else x (or_else y z)
or_else_assoc None y z = refl
or_else_assoc (Some x) y z = refl

first_push : {A B : Type 0} (f : A → Option B) (xs : List A) (x : A) → first f (xs ++ x ∷ []) ≡ or_else (first f xs) (f x)
first_push f [] x = or_else_none (f x)
first_push f (y ∷ xs) x = ap (or_else (f y)) (first_push f xs x) ∙ sym (or_else_assoc (f y) (first f xs) (f x))

last_push : {A B : Type 0} (f : A → Option B) (xs : List A) (x : A) → last f (xs ++ x ∷ []) ≡ or_else (f x) (last f xs)
last_push f [] x = sym (or_else_none (f x))
last_push f (y ∷ xs) x = ap (λ o. or_else o (f y)) (last_push f xs x) ∙ or_else_assoc (f x) (last f xs) (f y)

pub first_more : {A B : Type 0} (f : A → Option B) (xs : List A) (i : ℕ) (x : A) → i < length xs → x ≡ get_or xs i x → first f (take (i + 1) xs) ≡ or_else (first f (take i xs)) (f x)
first_more f xs i x lt is = ap (first f) (take_more xs i x lt) ∙ first_push f (take i xs) (get_or xs i x) ∙ rw (← is) refl

pub last_more : {A B : Type 0} (f : A → Option B) (xs : List A) (i : ℕ) (x : A) → i < length xs → x ≡ get_or xs i x → last f (take (i + 1) xs) ≡ or_else (f x) (last f (take i xs))
last_more f xs i x lt is = ap (last f) (take_more xs i x lt) ∙ last_push f (take i xs) (get_or xs i x) ∙ rw (← is) refl
