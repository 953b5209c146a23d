-- One frame more: what holds at a position, from what holds at the one before it.
use Rattle.std.proofs.Common.{◌≡◌, ℕ, suc, ◌+◌, ◌<◌, true, false, List, [], ◌∷◌, ◌++◌, length, None, refl, ap, arith}
use Rattle.std.specs.Prelude.{option_to_list, unwrap_or}
use Rattle.std.proofs.lemmas.List.Elements.{filter_map-append}
use Rattle.code_table.specs.declared.case.Case.TheVariants as cases
use Rattle.widths.specs.Widths.{WidthFile}
use Rattle.slug_reader.specs.Positions.{before, or_else}
use Rattle.slug_reader.specs.Meanings.{Meanings, selected_by, rail_of, quad_of, frame_at, case_at, meaning_at, rail_at}
use Rattle.slug_reader.specs.Lines.{is_cut, line_before, item_at, items_before, quad_before, line_number}
use Rattle.line_fit.proofs.Lists.{last_push, unwrap_or_else, after_passed, after_kept, filter_map_one, passed_next, passed_none}

pub case_more : (means : Meanings) (tape : List ℕ) (i : ℕ) → case_at means tape (suc i) ≡ unwrap_or (selected_by means (frame_at tape i)) (case_at means tape i)
unfolding case_at
case_more means tape i =
    rw (last_push (λ j. selected_by means (frame_at tape j)) (before i) i)
    (unwrap_or_else (selected_by means (frame_at tape i)) _ cases.Unshift)

pub rail_more : (means : Meanings) (tape : List ℕ) (i : ℕ) → rail_at means tape (suc i) ≡ unwrap_or (rail_of (meaning_at means tape i)) (rail_at means tape i)
unfolding rail_at
rail_more means tape i =
    rw (last_push (λ j. rail_of (meaning_at means tape j)) (before i) i)
    (unwrap_or_else (rail_of (meaning_at means tape i)) _ _)

pub line_emptied : (means : Meanings) (tape : List ℕ) (i : ℕ) → is_cut means tape i ≡ true → line_before means tape (suc i) ≡ []
unfolding line_before
line_emptied means tape i e = after_passed (is_cut means tape) (before i) i e

pub line_more : (means : Meanings) (tape : List ℕ) (i : ℕ) → is_cut means tape i ≡ false → line_before means tape (suc i) ≡ line_before means tape i ++ i ∷ []
unfolding line_before
line_more means tape i e = after_kept (is_cut means tape) (before i) i e

pub items_emptied : (means : Meanings) (widths : WidthFile) (tape : List ℕ) (i : ℕ) → is_cut means tape i ≡ true → items_before means widths tape (suc i) ≡ []
unfolding items_before
items_emptied means widths tape i e = rw (line_emptied means tape i e) refl

pub items_more : (means : Meanings) (widths : WidthFile) (tape : List ℕ) (i : ℕ) → is_cut means tape i ≡ false
    → items_before means widths tape (suc i) ≡ items_before means widths tape i ++ option_to_list (item_at means widths tape i)
unfolding items_before
items_more means widths tape i e =
    rw (line_more means tape i e, filter_map-append (item_at means widths tape) (line_before means tape i) (i ∷ []), filter_map_one (item_at means widths tape) i) refl

pub quad_emptied : (means : Meanings) (tape : List ℕ) (i : ℕ) → is_cut means tape i ≡ true → quad_before means tape (suc i) ≡ None
unfolding quad_before
quad_emptied means tape i e = rw (line_emptied means tape i e) refl

pub quad_more : (means : Meanings) (tape : List ℕ) (i : ℕ) → is_cut means tape i ≡ false → quad_before means tape (suc i) ≡ or_else (quad_of (meaning_at means tape i)) (quad_before means tape i)
unfolding quad_before
quad_more means tape i e =
    rw (line_more means tape i e) (last_push (λ j. quad_of (meaning_at means tape j)) (line_before means tape i) i)

pub number_cut : (means : Meanings) (tape : List ℕ) (i : ℕ) → i < length tape → is_cut means tape i ≡ true → line_number means tape (suc i) ≡ line_number means tape i + 1
number_cut means tape i lt e = let h = rw e at (passed_next (is_cut means tape) i (length tape) lt) in omega (arith, h)

pub number_kept : (means : Meanings) (tape : List ℕ) (i : ℕ) → i < length tape → is_cut means tape i ≡ false → line_number means tape (suc i) ≡ line_number means tape i
number_kept means tape i lt e = let h = rw e at (passed_next (is_cut means tape) i (length tape) lt) in omega (arith, h)

pub number_first : (means : Meanings) (tape : List ℕ) → line_number means tape 0 ≡ 1
number_first means tape = ap suc (passed_none (is_cut means tape) (length tape))
