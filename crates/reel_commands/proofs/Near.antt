-- One frame more of what stands around a place.
use Rattle.std.proofs.Common.{◌≡◌, ℕ, suc, ◌+◌, List, [], ◌∷◌, ◌++◌, get_or, refl, sym, ◌∙◌, ap, add-one}
use Rattle.std.specs.Prelude.{flat_map, Option, Some, None, unwrap_or}
use Rattle.std.proofs.lemmas.List.{append-nil}
use Rattle.std.proofs.lemmas.Grind.{flat_map-append}
use Rattle.code_table.specs.declared.case.Case.TheVariants as cases
use Rattle.slug_reader.specs.Positions.{before, last, or_else}
use Rattle.slug_reader.specs.Meanings.{Meanings, selected_by, case_at, meaning_at, frame_at}
use Rattle.reel_commands.specs.Survey.{shown, near}

or_else_none : {A : Type 0} (x : Option A) → or_else x None ≡ x
or_else_none None = refl
or_else_none (Some x) = refl

or_else_assoc : {A : Type 0} (x y z : Option A) → or_else (or_else x y) z ≡ or_else x (or_else y z)
or_else_assoc None y z = refl
or_else_assoc (Some x) y z = refl

unwrap_or_else : {A : Type 0} (x y : Option A) (d : A) → unwrap_or (or_else x y) d ≡ unwrap_or x (unwrap_or y d)
unwrap_or_else None y d = refl
unwrap_or_else (Some x) y d = refl

last_push : {A B : Type 0} (f : A → Option B) (xs : List A) (x : A) → last f (xs ++ x ∷ []) ≡ or_else (f x) (last f xs)
last_push f [] x = sym (or_else_none (f x))
last_push f (y ∷ xs) x = ap (λ o. or_else o (f y)) (last_push f xs x) ∙ or_else_assoc (f x) (last f xs) (f y)

-- the case behind one frame more
pub case_more : (means : Meanings) (tape : List ℕ) (i : ℕ) → case_at means tape (suc i) ≡ unwrap_or (selected_by means (frame_at tape i)) (case_at means tape i)
unfolding case_at
case_more means tape i =
    rw (last_push (λ j. selected_by means (frame_at tape j)) (before i) i)
    (unwrap_or_else (selected_by means (frame_at tape i)) _ cases.Unshift)

pub case_first : (means : Meanings) (tape : List ℕ) → cases.Unshift ≡ case_at means tape 0
unfolding case_at
case_first means tape = refl

-- what of it stands before a position
abbrev pub near_to : Meanings → List ℕ → ℕ → ℕ → List ℕ
near_to means tape at i = flat_map (λ j. near at j (shown (meaning_at means tape j) (frame_at tape j))) (before i)

-- what of it stands at a position
abbrev pub near_at : Meanings → List ℕ → ℕ → ℕ → List ℕ
near_at means tape at i = near at i (shown (means (case_at means tape i) (get_or tape i 0)) (get_or tape i 0))

pub near_more : (means : Meanings) (tape : List ℕ) (at i : ℕ) → near_to means tape at (i + 1) ≡ near_to means tape at i ++ near_at means tape at i
unfolding meaning_at
near_more means tape at i =
    rw add-one
    (flat_map-append (λ j. near at j (shown (meaning_at means tape j) (frame_at tape j))) (before i) (i ∷ [])
    ∙ ap (λ t. near_to means tape at i ++ t) (append-nil (near_at means tape at i)))
