-- A list or a function with one place changed, and what stands in a list.
use Rattle.std.proofs.Common.{◌≡◌, ℕ, suc, zero, ◌⊎◌, inl, inr, refl, sym, ap, subst, ◌∙◌, List, [], ◌∷◌, ◌++◌, Some, None, Bool, true, false}
use Rattle.std.specs.Prelude.{◌==◌, slice_get, map}
use Rattle.std.proofs.lemmas.Bool.{eqb-true, eq-eqb}
use Rattle.protocol.specs.Rows.{Row}
use Rattle.protocol.specs.Lists.{IsAmong}
use Rattle.protocol.specs.Circuit.{with_at, saved}

pub with_at_cases : {A : Type 0} (f : ℕ → A) (m : ℕ) (x y : A) (k : ℕ) → (with_at f m y k ≡ with_at f m x k) ⊎ (k ≡ m) × (with_at f m x k ≡ x) × (with_at f m y k ≡ y)
with_at_cases f m x y k = go (k == m) refl
  where
    go : (b : Bool) → (k == m) ≡ b → (with_at f m y k ≡ with_at f m x k) ⊎ (k ≡ m) × (with_at f m x k ≡ x) × (with_at f m y k ≡ y)
    go true e = inr (eqb-true k m e, rw e refl, rw e refl)
    go false e = inl (rw e refl)

pub with_at-same : {A : Type 0} (f : ℕ → A) (m : ℕ) (x : A) → with_at f m x m ≡ x
with_at-same f m x = let e : (m == m) ≡ true = eq-eqb m m refl in rw e refl

pub with_at-self : {A : Type 0} (f : ℕ → A) (m : ℕ) (k : ℕ) → with_at f m (f m) k ≡ f k
with_at-self f m k = go (k == m) refl
  where
    go : (b : Bool) → (k == m) ≡ b → with_at f m (f m) k ≡ f k
    go true e = rw e (ap f (sym (eqb-true k m e)))
    go false e = rw e refl

pub saved-same : (rows : ℕ → ℕ → Row) (m n : ℕ) (r : Row) → saved rows m n r m n ≡ r
saved-same rows m n r = let e : (m == m) ≡ true = eq-eqb m m refl in let f : (n == n) ≡ true = eq-eqb n n refl in rw (e, f) refl

pub saved_cases : (rows : ℕ → ℕ → Row) (m n : ℕ) (r q : Row) (k j : ℕ) → (saved rows m n q k j ≡ saved rows m n r k j) ⊎ (k ≡ m) × (j ≡ n) × (saved rows m n r k j ≡ r) × (saved rows m n q k j ≡ q)
saved_cases rows m n r q k j = go (k == m) (j == n) refl refl
  where
    go : (a b : Bool) → (k == m) ≡ a → (j == n) ≡ b → (saved rows m n q k j ≡ saved rows m n r k j) ⊎ (k ≡ m) × (j ≡ n) × (saved rows m n r k j ≡ r) × (saved rows m n q k j ≡ q)
    go true true e f = inr (eqb-true k m e, eqb-true j n f, rw (e, f) refl, rw (e, f) refl)
    go true false e f = inl (rw (e, f) refl)
    go false b e f = inl (rw e refl)

pub saved-self : (rows : ℕ → ℕ → Row) (m n : ℕ) (k j : ℕ) → saved rows m n (rows m n) k j ≡ rows k j
saved-self rows m n k j = go (k == m) (j == n) refl refl
  where
    go : (a b : Bool) → (k == m) ≡ a → (j == n) ≡ b → saved rows m n (rows m n) k j ≡ rows k j
    go true true e f = rw (e, f) (ap (λ x. rows x n) (sym (eqb-true k m e)) ∙ ap (λ x. rows k x) (sym (eqb-true j n f)))
    go true false e f = rw (e, f) (ap (λ x. rows x j) (sym (eqb-true k m e)))
    go false b e f = rw e refl

pub among-append : {A : Type 0} (xs ys : List A) (x : A) → IsAmong (xs ++ ys) x → IsAmong xs x ⊎ IsAmong ys x
among-append [] ys x h = inr h
among-append (y ∷ xs) ys x (inl e) = inl (inl e)
among-append (y ∷ xs) ys x (inr h) = elim (among-append xs ys x h) [ inl k ↦ inl (inr k) | inr k ↦ inr k ]

pub among_left : {A : Type 0} (xs ys : List A) (x : A) → IsAmong xs x → IsAmong (xs ++ ys) x
among_left [] ys x h = absurd h
among_left (y ∷ xs) ys x (inl e) = inl e
among_left (y ∷ xs) ys x (inr h) = inr (among_left xs ys x h)

pub among_right : {A : Type 0} (xs ys : List A) (x : A) → IsAmong ys x → IsAmong (xs ++ ys) x
among_right [] ys x h = h
among_right (y ∷ xs) ys x h = inr (among_right xs ys x h)

pub among_split : {A : Type 0} (zs xs ys : List A) (x : A) → zs ≡ xs ++ x ∷ ys → IsAmong zs x
among_split zs xs ys x e = subst (λ (l : List _). IsAmong l x) (sym e) (among_right xs (x ∷ ys) x (inl refl))

pub among-map : {A B : Type 0} (f : A → B) (xs : List A) (y : B) → IsAmong (map f xs) y → (x : A) × (y ≡ f x)
among-map f [] y h = absurd h
among-map f (x ∷ xs) y (inl e) = (x, e)
among-map f (x ∷ xs) y (inr h) = among-map f xs y h

pub among_got : {A : Type 0} (xs : List A) (k : ℕ) (x : A) → slice_get xs k ≡ Some x → IsAmong xs x
among_got [] k x e = absurd (none_some e)
  where
    none_some : {A : Type 0} {x : A} → None ≡ Some x → ⊥
    none_some e = cc
among_got (y ∷ xs) zero x e = inl (some_same e)
  where
    some_same : {A : Type 0} {x y : A} → Some y ≡ Some x → x ≡ y
    some_same e = cc
among_got (y ∷ xs) (suc k) x e = inr (among_got xs k x e)

pub among_map_of : {A B : Type 0} (f : A → B) (xs : List A) (y : B) → IsAmong (map f xs) y → (x : A) × IsAmong xs x × (y ≡ f x)
among_map_of f [] y h = absurd h
among_map_of f (x ∷ xs) y (inl e) = (x, inl refl, e)
among_map_of f (x ∷ xs) y (inr h) = let (r, i, e) = among_map_of f xs y h in (r, inr i, e)
