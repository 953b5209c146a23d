-- One more position: what looking back over a list finds when an item is added at its end.
use Rattle.std.proofs.Common.{◌≡◌, ℕ, zero, suc, ◌<◌, ◌≤◌, Bool, true, false, cond, ◌||◌, List, [], ◌∷◌, ◌++◌, length, Option, Some, None, refl, sym, ◌∙◌, ap, arith, inl, inr, length-append}
use Rattle.std.specs.Prelude.{filter_map, option_to_list, unwrap_or}
use Rattle.std.specs.List.{cons_option}
use Rattle.std.proofs.lemmas.Bool.{cases_lt}
use Rattle.slug_reader.specs.Positions.{before, or_else, first, last, has, after_last}

or_else_none : {A : Type 0} (x : Option A) → or_else x None ≡ x
or_else_none None = refl
or_else_none (Some x) = refl

or_else_assoc : {A : Type 0} (x y z : Option A) → or_else (or_else x y) z ≡ or_else x (or_else y z)
or_else_assoc None y z = refl
or_else_assoc (Some x) y z = refl

pub unwrap_or_else : {A : Type 0} (x y : Option A) (d : A) → unwrap_or (or_else x y) d ≡ unwrap_or x (unwrap_or y d)
unwrap_or_else None y d = refl
unwrap_or_else (Some x) y d = refl

pub last_push : {A B : Type 0} (f : A → Option B) (xs : List A) (x : A) → last f (xs ++ x ∷ []) ≡ or_else (f x) (last f xs)
last_push f [] x = sym (or_else_none (f x))
last_push f (y ∷ xs) x = ap (λ o. or_else o (f y)) (last_push f xs x) ∙ or_else_assoc (f x) (last f xs) (f y)

pub first_push : {A B : Type 0} (f : A → Option B) (xs : List A) (x : A) → first f (xs ++ x ∷ []) ≡ or_else (first f xs) (f x)
first_push f [] x = or_else_none (f x)
first_push f (y ∷ xs) x = ap (or_else (f y)) (first_push f xs x) ∙ sym (or_else_assoc (f y) (first f xs) (f x))

-- an answer behind positions that have none is the first, however far one looks
pub first_at : {B : Type 0} (f : ℕ → Option B) (i n : ℕ) (x : B) → first f (before i) ≡ None → f i ≡ Some x → i < n → first f (before n) ≡ Some x
first_at f i zero x none some lt = absurd (omega (arith, lt))
first_at f i (suc n) x none some lt =
    first_push f (before n) n ∙
    elim (cases_lt i n) [
      | inl less ↦ ap (λ o. or_else o (f n)) (first_at f i n x none some less)
      | inr more ↦ let same : n ≡ i = omega arith in rw (same, none, some) refl
    ]

has_true : {A : Type 0} (p : A → Bool) (xs : List A) (x : A) → p x ≡ true → has p (xs ++ x ∷ []) ≡ true
has_true p [] x e = rw e refl
has_true p (y ∷ xs) x e = elim (p y) as (λ b. (b || has p (xs ++ x ∷ [])) ≡ true) [ true ↦ refl | false ↦ has_true p xs x e ]

has_same : {A : Type 0} (p : A → Bool) (xs : List A) (x : A) → p x ≡ false → has p (xs ++ x ∷ []) ≡ has p xs
has_same p [] x e = rw e refl
has_same p (y ∷ xs) x e = ap (λ b. p y || b) (has_same p xs x e)

-- after an item that passes there is none
pub after_passed : {A : Type 0} (p : A → Bool) (xs : List A) (x : A) → p x ≡ true → after_last p (xs ++ x ∷ []) ≡ []
after_passed p [] x e = rw e refl
after_passed p (y ∷ xs) x e = rw (has_true p xs x e) (after_passed p xs x e)

cond_push : {A : Type 0} (b c : Bool) (xs ys zs ws : List A) → cond b (xs ++ ws) (cond c (ys ++ ws) (zs ++ ws)) ≡ cond b xs (cond c ys zs) ++ ws
cond_push true c xs ys zs ws = refl
cond_push false true xs ys zs ws = refl
cond_push false false xs ys zs ws = refl

-- an item that does not pass is one more
pub after_kept : {A : Type 0} (p : A → Bool) (xs : List A) (x : A) → p x ≡ false → after_last p (xs ++ x ∷ []) ≡ after_last p xs ++ x ∷ []
after_kept p [] x e = rw e refl
after_kept p (y ∷ xs) x e =
    rw (has_same p xs x e, after_kept p xs x e) (cond_push (has p xs) (p y) (after_last p xs) xs (y ∷ xs) (x ∷ []))

pub filter_map_one : {A B : Type 0} (h : A → Option B) (x : A) → filter_map h (x ∷ []) ≡ option_to_list (h x)
filter_map_one h x = elim (h x) as (λ o. cons_option o [] ≡ option_to_list o) [ None ↦ refl | Some y ↦ refl ]

length-before : (i : ℕ) → length (before i) ≡ i
length-before zero = refl
length-before (suc i) = omega (arith, length-append (before i) (i ∷ []), length-before i)

cond_le : {A : Type 0} (b : Bool) (xs ys : List A) (n : ℕ) → length xs ≤ n → length ys ≤ n → length (cond b xs ys) ≤ n
cond_le true xs ys n p q = p
cond_le false xs ys n p q = q

length-after_last : {A : Type 0} (p : A → Bool) (xs : List A) → length (after_last p xs) ≤ length xs
length-after_last p [] = omega arith
length-after_last p (x ∷ xs) =
    let rest = length-after_last p xs in
    cond_le (has p xs) (after_last p xs) _ (length (x ∷ xs)) (omega (arith, rest)) (cond_le (p x) xs (x ∷ xs) (length (x ∷ xs)) (omega arith) (omega arith))

length-cons_option : {A : Type 0} (o : Option A) (xs : List A) (n : ℕ) → length xs ≤ n → length (cons_option o xs) ≤ suc n
length-cons_option None xs n h = omega (arith, h)
length-cons_option (Some x) xs n h = omega (arith, h)

length-filter_map : {A B : Type 0} (h : A → Option B) (xs : List A) → length (filter_map h xs) ≤ length xs
length-filter_map h [] = omega arith
length-filter_map h (x ∷ xs) = length-cons_option (h x) (filter_map h xs) (length xs) (length-filter_map h xs)

-- no more items than positions
pub length-found : {B : Type 0} (h : ℕ → Option B) (p : ℕ → Bool) (i : ℕ) → length (filter_map h (after_last p (before i))) ≤ i
length-found h p i =
    omega (arith, length-filter_map h (after_last p (before i)), length-after_last p (before i), length-before i)
