-- One more position: what looking over a list finds when an item is added at its end.
use Rattle.std.proofs.Common.{◌≡◌, ℕ, zero, suc, ◌+◌, ◌<◌, Bool, true, false, List, [], ◌∷◌, ◌++◌, Option, Some, None, refl, sym, ◌∙◌, ap, arith, inl, inr, add-one}
use Rattle.std.specs.Prelude.{unwrap_or}
use Rattle.std.proofs.lemmas.Bool.{cases_lt}
use Rattle.slug_reader.specs.Positions.{before, or_else, first, last}
use Rattle.text_tape.specs.Codes.{if_so}

or_else_none : {A : Type 0} (x : Option A) → or_else x None ≡ x
or_else_none None = refl
or_else_none (Some x) = refl

or_else_assoc : {A : Type 0} (x y z : Option A) → or_else (or_else x y) z ≡ or_else x (or_else y z)
or_else_assoc None y z = refl
or_else_assoc (Some x) y z = refl

pub unwrap_or_else : {A : Type 0} (x y : Option A) (d : A) → unwrap_or (or_else x y) d ≡ unwrap_or x (unwrap_or y d)
unwrap_or_else None y d = refl
unwrap_or_else (Some x) y d = refl

pub last_push : {A B : Type 0} (f : A → Option B) (xs : List A) (x : A) → last f (xs ++ x ∷ []) ≡ or_else (f x) (last f xs)
last_push f [] x = sym (or_else_none (f x))
last_push f (y ∷ xs) x = ap (λ o. or_else o (f y)) (last_push f xs x) ∙ or_else_assoc (f x) (last f xs) (f y)

pub first_push : {A B : Type 0} (f : A → Option B) (xs : List A) (x : A) → first f (xs ++ x ∷ []) ≡ or_else (first f xs) (f x)
first_push f [] x = or_else_none (f x)
first_push f (y ∷ xs) x = ap (or_else (f y)) (first_push f xs x) ∙ sym (or_else_assoc (f y) (first f xs) (f x))

-- the first position that passes
pub first_here : (p : ℕ → Bool) (i n : ℕ) → first (λ f. if_so (p f) f) (before i) ≡ None → p i ≡ true → i < n → first (λ f. if_so (p f) f) (before n) ≡ Some i
first_here p i zero none some lt = absurd (omega (arith, lt))
first_here p i (suc n) none some lt =
    first_push (λ f. if_so (p f) f) (before n) n ∙
    elim (cases_lt i n) [
      | inl less ↦ ap (λ o. or_else o (if_so (p n) n)) (first_here p i n none some less)
      | inr more ↦ let same : n ≡ i = omega arith in rw (same, none, some) refl
    ]

-- none up to a position that does not pass
pub none_more : (p : ℕ → Bool) (i : ℕ) → first (λ f. if_so (p f) f) (before i) ≡ None → p i ≡ false → first (λ f. if_so (p f) f) (before (i + 1)) ≡ None
none_more p i none not = rw (add-one, first_push (λ f. if_so (p f) f) (before i) i, none, not) refl

-- the last answer is the same where all are
pub last_agrees : {B : Type 0} (f g : ℕ → Option B) (n : ℕ) → ((j : ℕ) → j < n → f j ≡ g j) → last f (before n) ≡ last g (before n)
last_agrees f g zero h = refl
last_agrees f g (suc n) h =
    last_push f (before n) n ∙ rw (h n (omega arith), last_agrees f g n (λ j lt. h j (omega (arith, lt)))) (sym (last_push g (before n) n))
