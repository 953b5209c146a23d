-- What stands after the last item that passes, when an item is added at the end.
use Rattle.std.proofs.Common.{◌≡◌, Bool, true, false, cond, ◌||◌, List, [], ◌∷◌, ◌++◌, refl, ap}
use Rattle.slug_reader.specs.Positions.{has, after_last}

has_true : {A : Type 0} (p : A → Bool) (xs : List A) (x : A) → p x ≡ true → has p (xs ++ x ∷ []) ≡ true
has_true p [] x e = rw e refl
has_true p (y ∷ xs) x e = elim (p y) as (λ b. (b || has p (xs ++ x ∷ [])) ≡ true) [ true ↦ refl | false ↦ has_true p xs x e ]

has_same : {A : Type 0} (p : A → Bool) (xs : List A) (x : A) → p x ≡ false → has p (xs ++ x ∷ []) ≡ has p xs
has_same p [] x e = rw e refl
has_same p (y ∷ xs) x e = ap (λ b. p y || b) (has_same p xs x e)

-- after an item that passes there is none
pub after_passed : {A : Type 0} (p : A → Bool) (xs : List A) (x : A) → p x ≡ true → after_last p (xs ++ x ∷ []) ≡ []
after_passed p [] x e = rw e refl
after_passed p (y ∷ xs) x e = rw (has_true p xs x e) (after_passed p xs x e)

cond_push : {A : Type 0} (b c : Bool) (xs ys zs ws : List A) → cond b (xs ++ ws) (cond c (ys ++ ws) (zs ++ ws)) ≡ cond b xs (cond c ys zs) ++ ws
cond_push true c xs ys zs ws = refl
cond_push false true xs ys zs ws = refl
cond_push false false xs ys zs ws = refl

-- an item that does not pass is one more
pub after_kept : {A : Type 0} (p : A → Bool) (xs : List A) (x : A) → p x ≡ false → after_last p (xs ++ x ∷ []) ≡ after_last p xs ++ x ∷ []
after_kept p [] x e = rw e refl
after_kept p (y ∷ xs) x e =
    rw (has_same p xs x e, after_kept p xs x e) (cond_push (has p xs) (p y) (after_last p xs) xs (y ∷ xs) (x ∷ []))
