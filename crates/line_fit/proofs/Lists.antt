-- One more position: what looking back over a list finds when an item is added at its end.
use Rattle.std.proofs.Common.{◌≡◌, ℕ, zero, suc, ◌+◌, ◌<◌, ◌≤◌, Bool, true, false, cond, ltb, ◌||◌, List, [], ◌∷◌, ◌++◌, Option, Some, None, refl, sym, ◌∙◌, ap, arith, inl, inr, add-zero}
use Rattle.std.specs.Prelude.{filter, filter_map, count_by, option_to_list, unwrap_or}
use Rattle.std.specs.List.{cons_option}
use Rattle.std.proofs.lemmas.Bool.{cases_lt, lt-ltb, le-ltb}
use Rattle.std.proofs.lemmas.List.Elements.{filter-append}
use Rattle.std.proofs.lemmas.List.Sums.{sum_by-append}
use Rattle.slug_reader.specs.Positions.{before, or_else, first, last, has, after_last}

pub or_else_none : {A : Type 0} (x : Option A) → or_else x None ≡ x
or_else_none None = refl
or_else_none (Some x) = refl

pub or_else_assoc : {A : Type 0} (x y z : Option A) → or_else (or_else x y) z ≡ or_else x (or_else y z)
or_else_assoc None y z = refl
or_else_assoc (Some x) y z = refl

pub unwrap_or_else : {A : Type 0} (x y : Option A) (d : A) → unwrap_or (or_else x y) d ≡ unwrap_or x (unwrap_or y d)
unwrap_or_else None y d = refl
unwrap_or_else (Some x) y d = refl

pub last_push : {A B : Type 0} (f : A → Option B) (xs : List A) (x : A) → last f (xs ++ x ∷ []) ≡ or_else (f x) (last f xs)
last_push f [] x = sym (or_else_none (f x))
last_push f (y ∷ xs) x = ap (λ o. or_else o (f y)) (last_push f xs x) ∙ or_else_assoc (f x) (last f xs) (f y)

pub first_push : {A B : Type 0} (f : A → Option B) (xs : List A) (x : A) → first f (xs ++ x ∷ []) ≡ or_else (first f xs) (f x)
first_push f [] x = or_else_none (f x)
first_push f (y ∷ xs) x = ap (or_else (f y)) (first_push f xs x) ∙ sym (or_else_assoc (f y) (first f xs) (f x))

has_true : {A : Type 0} (p : A → Bool) (xs : List A) (x : A) → p x ≡ true → has p (xs ++ x ∷ []) ≡ true
has_true p [] x e = rw e refl
has_true p (y ∷ xs) x e = elim (p y) as (λ b. (b || has p (xs ++ x ∷ [])) ≡ true) [ true ↦ refl | false ↦ has_true p xs x e ]

has_same : {A : Type 0} (p : A → Bool) (xs : List A) (x : A) → p x ≡ false → has p (xs ++ x ∷ []) ≡ has p xs
has_same p [] x e = rw e refl
has_same p (y ∷ xs) x e = ap (λ b. p y || b) (has_same p xs x e)

-- after an item that passes there is none
pub after_passed : {A : Type 0} (p : A → Bool) (xs : List A) (x : A) → p x ≡ true → after_last p (xs ++ x ∷ []) ≡ []
after_passed p [] x e = rw e refl
after_passed p (y ∷ xs) x e = rw (has_true p xs x e) (after_passed p xs x e)

cond_push : {A : Type 0} (b c : Bool) (xs ys zs ws : List A) → cond b (xs ++ ws) (cond c (ys ++ ws) (zs ++ ws)) ≡ cond b xs (cond c ys zs) ++ ws
cond_push true c xs ys zs ws = refl
cond_push false true xs ys zs ws = refl
cond_push false false xs ys zs ws = refl

-- an item that does not pass is one more
pub after_kept : {A : Type 0} (p : A → Bool) (xs : List A) (x : A) → p x ≡ false → after_last p (xs ++ x ∷ []) ≡ after_last p xs ++ x ∷ []
after_kept p [] x e = rw e refl
after_kept p (y ∷ xs) x e =
    rw (has_same p xs x e, after_kept p xs x e) (cond_push (has p xs) (p y) (after_last p xs) xs (y ∷ xs) (x ∷ []))

pub filter_map_one : {A B : Type 0} (h : A → Option B) (x : A) → filter_map h (x ∷ []) ≡ option_to_list (h x)
filter_map_one h x = elim (h x) as (λ o. cons_option o [] ≡ option_to_list o) [ None ↦ refl | Some y ↦ refl ]

-- how many of the first n positions pass, and stand before another
abbrev pub passed : (ℕ → Bool) → ℕ → ℕ → ℕ
passed p at n = count_by (λ i. ltb i at) (filter p (before n))

passed_push : (p : ℕ → Bool) (at n : ℕ) → passed p at (suc n) ≡ passed p at n + count_by (λ i. ltb i at) (filter p (n ∷ []))
passed_push p at n =
    rw (filter-append p (before n) (n ∷ []))
    (sum_by-append (λ i. cond (ltb i at) 1 0) (filter p (before n)) (filter p (n ∷ [])))

one_far : (at n : ℕ) (b : Bool) → at ≤ n → count_by (λ i. ltb i at) (cond b (n ∷ []) []) ≡ 0
one_far at n true le = rw (le-ltb n at le) refl
one_far at n false le = refl

one_near : (at n : ℕ) (b : Bool) → n < at → count_by (λ i. ltb i at) (cond b (n ∷ []) []) ≡ cond b 1 0
one_near at n true lt = rw (lt-ltb n at lt) refl
one_near at n false lt = refl

-- all positions stand before a later one
passed_all : (p : ℕ → Bool) (a b n : ℕ) → n ≤ a → n ≤ b → passed p a n ≡ passed p b n
passed_all p a b zero h k = refl
passed_all p a b (suc n) h k =
    let x : passed p a (suc n) ≡ passed p a n + cond (p n) 1 0 = passed_push p a n ∙ ap (λ m. passed p a n + m) (one_near a n (p n) (omega (arith, h))) in
    let y : passed p b (suc n) ≡ passed p b n + cond (p n) 1 0 = passed_push p b n ∙ ap (λ m. passed p b n + m) (one_near b n (p n) (omega (arith, k))) in
    x ∙ ap (λ m. m + cond (p n) 1 0) (passed_all p a b n (omega (arith, h)) (omega (arith, k))) ∙ sym y

passed_last : (p : ℕ → Bool) (n : ℕ) → passed p (suc n) (suc n) ≡ passed p n (suc n) + cond (p n) 1 0
passed_last p n =
    let lt : n < suc n = omega arith in
    let le : n ≤ suc n = omega arith in
    let self : n ≤ n = omega arith in
    let a : passed p (suc n) (suc n) ≡ passed p (suc n) n + cond (p n) 1 0 = passed_push p (suc n) n ∙ ap (λ m. passed p (suc n) n + m) (one_near (suc n) n (p n) lt) in
    let b : passed p n (suc n) ≡ passed p n n = passed_push p n n ∙ rw (one_far n n (p n) self) (add-zero _) in
    a ∙ ap (λ k. k + cond (p n) 1 0) (passed_all p (suc n) n n le self ∙ sym b)

-- one position further
pub passed_next : (p : ℕ → Bool) (i n : ℕ) → i < n → passed p (suc i) n ≡ passed p i n + cond (p i) 1 0
passed_next p i zero lt = absurd (omega (arith, lt))
passed_next p i (suc n) lt =
    elim (cases_lt i n) [
      | inl less ↦
          let a : passed p (suc i) (suc n) ≡ passed p (suc i) n = passed_push p (suc i) n ∙ rw (one_far (suc i) n (p n) less) (add-zero _) in
          let b : passed p i (suc n) ≡ passed p i n = passed_push p i n ∙ rw (one_far i n (p n) (omega (arith, less))) (add-zero _) in
          a ∙ passed_next p i n less ∙ ap (λ k. k + cond (p i) 1 0) (sym b)
      | inr more ↦
          let same : i ≡ n = omega (arith, lt, more) in
          rw same (passed_last p n)
    ]

-- none stands before the first
pub passed_none : (p : ℕ → Bool) (n : ℕ) → passed p 0 n ≡ 0
passed_none p zero = refl
passed_none p (suc n) = passed_push p 0 n ∙ rw (one_far 0 n (p n) (omega arith)) (add-zero _ ∙ passed_none p n)
