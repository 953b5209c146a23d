-- One frame more: what holds at a position, from what holds at the one before it.
use Rattle.std.proofs.Common.{◌≡◌, ℕ, ◌+◌, List, [], ◌∷◌, ◌++◌, Option, Some, None, refl, sym, ap, ◌∙◌, add-one}
use Rattle.std.specs.Prelude.{unwrap_or}
use Rattle.code_table.specs.declared.case.Case.{Case}
use Rattle.code_table.specs.declared.case.Case.TheVariants as cases
use Rattle.slug_reader.specs.Positions.{before, last, or_else}
use Rattle.slug_reader.specs.Meanings.{Meanings, selected_by, frame_at, case_at, meaning_at}

or_else_assoc : {A : Type 0} (x y z : Option A) → or_else (or_else x y) z ≡ or_else x (or_else y z)
or_else_assoc None y z = refl
or_else_assoc (Some x) y z = refl

or_else_none : {A : Type 0} (x : Option A) → or_else x None ≡ x
or_else_none None = refl
or_else_none (Some x) = refl

last_push : {A B : Type 0} (f : A → Option B) (xs : List A) (x : A) → last f (xs ++ x ∷ []) ≡ or_else (f x) (last f xs)
last_push f [] x = sym (or_else_none (f x))
last_push f (y ∷ xs) x = ap (λ o. or_else o (f y)) (last_push f xs x) ∙ or_else_assoc (f x) (last f xs) (f y)

unwrap_or_else : {A : Type 0} (x y : Option A) (d : A) → unwrap_or (or_else x y) d ≡ unwrap_or x (unwrap_or y d)
unwrap_or_else None y d = refl
unwrap_or_else (Some x) y d = refl

pub case_start : (means : Meanings) (tape : List ℕ) → case_at means tape 0 ≡ cases.Unshift
unfolding case_at
case_start means tape = refl

pub case_more : (means : Meanings) (tape : List ℕ) (i : ℕ) → case_at means tape (i + 1) ≡ unwrap_or (selected_by means (frame_at tape i)) (case_at means tape i)
unfolding case_at
case_more means tape i =
    rw (add-one, last_push (λ j. selected_by means (frame_at tape j)) (before i) i)
    (unwrap_or_else (selected_by means (frame_at tape i)) _ cases.Unshift)

-- what a frame means where the case is that of its position
pub meaning_is : (means : Meanings) (tape : List ℕ) (i : ℕ) (case : Case) → case ≡ case_at means tape i → means case (frame_at tape i) ≡ meaning_at means tape i
unfolding meaning_at
meaning_is means tape i case e = rw e refl
