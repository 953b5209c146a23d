-- All 64 combinations, one after the other.
use Rattle.std.proofs.Common.{◌≡◌, ℕ, ◌+◌, List, [], ◌∷◌, ◌++◌, Option, Some, None, refl, ◌∙◌, ap, sym, append_assoc, add-one}
use Rattle.std.specs.Prelude.{flat_map, map, option_map}
use Rattle.std.proofs.lemmas.List.{append-nil, map-append}
use Rattle.std.proofs.lemmas.Grind.{flat_map-append}
use Rattle.code_table.specs.declared.meaning.Meaning.{Meaning}
use Rattle.widths.specs.Widths.{WidthFile}
use Rattle.slug_reader.specs.Meanings.{Meanings}
use Rattle.slug_reader.specs.Positions.{before, first, or_else}
use Rattle.tape_drawing.proofs.Firsts.{first_push}
use Rattle.code_chart.specs.Cells.{all_frames, said}
use Rattle.code_chart.specs.Document.{meaning_in}

-- one cell more that was written
pub written_more : {A : Type 0} (f : A → List ℕ) (g : ℕ → A) (n : ℕ) (initial text : List ℕ) → text ≡ initial ++ flat_map f (map g (before n))
    → text ++ f (g n) ≡ initial ++ flat_map f (map g (before (n + 1)))
written_more f g n initial text is =
    ap (λ t. t ++ f (g n)) is
    ∙ (append_assoc initial (flat_map f (map g (before n))) (f (g n))
    ∙ ap (λ t. initial ++ t) (rw (add-one, map-append g (before n) (n ∷ [])) (sym (flat_map-append f (map g (before n)) (g n ∷ []) ∙ ap (λ t. flat_map f (map g (before n)) ++ t) (append-nil (f (g n)))))))

-- behind the last all were
pub all_are : (n : ℕ) → n ≡ 64 → before n ≡ all_frames
unfolding all_frames
all_are n is = rw is refl

-- the first answer, with one more asked
pub first_more : {B : Type 0} (f : ℕ → Option B) (n : ℕ) → first f (before (n + 1)) ≡ or_else (first f (before n)) (f n)
first_more f n = rw add-one (first_push f (before n) n)

-- the meaning of what is said of a meaning is that meaning
pub meaning_in_cell : (widths : WidthFile) (means : Meanings) (frame : ℕ) (meaning : Option Meaning) → meaning_in (option_map (said widths means frame) meaning) ≡ meaning
meaning_in_cell widths means frame None = refl
meaning_in_cell widths means frame (Some meaning) = refl
