-- One frame more: what holds at a position, from what holds at the one before it.
use Rattle.std.proofs.Common.{◌≡◌, ℕ, ◌+◌, true, false, cond, List, [], ◌∷◌, ◌++◌, map, None, refl, sym, ◌∙◌, ap, add-one}
use Rattle.std.specs.Prelude.{filter, option_to_list, unwrap_or}
use Rattle.std.proofs.lemmas.List.{map-append, append-nil}
use Rattle.std.proofs.lemmas.List.Elements.{filter-append, filter_map-append}
use Rattle.code_table.specs.declared.case.Case.TheVariants as cases
use Rattle.widths.specs.Widths.{WidthFile}
use Rattle.slug_reader.specs.declared.item.Item.{Item}
use Rattle.slug_reader.specs.Positions.{before, or_else}
use Rattle.slug_reader.specs.Meanings.{Meanings, selected_by, rail_of, quad_of, frame_at, case_at, meaning_at, rail_at}
use Rattle.slug_reader.specs.Lines.{is_cut, line_before, item_at, items_before, quad_before, line_of, is_filled, is_cast, lines_before}
use Rattle.slug_reader.specs.Assembling.{line_cut}
use Rattle.slug_reader.proofs.Lists.{last_push, unwrap_or_else, after_passed, after_kept, filter_map_one}

pub case_more : (means : Meanings) (tape : List ℕ) (i : ℕ) → case_at means tape (i + 1) ≡ unwrap_or (selected_by means (frame_at tape i)) (case_at means tape i)
unfolding case_at
case_more means tape i =
    rw (add-one, last_push (λ j. selected_by means (frame_at tape j)) (before i) i)
    (unwrap_or_else (selected_by means (frame_at tape i)) _ cases.Unshift)

pub rail_more : (means : Meanings) (tape : List ℕ) (i : ℕ) → rail_at means tape (i + 1) ≡ unwrap_or (rail_of (meaning_at means tape i)) (rail_at means tape i)
unfolding rail_at
rail_more means tape i =
    rw (add-one, last_push (λ j. rail_of (meaning_at means tape j)) (before i) i)
    (unwrap_or_else (rail_of (meaning_at means tape i)) _ _)

pub line_emptied : (means : Meanings) (tape : List ℕ) (i : ℕ) → is_cut means tape i ≡ true → line_before means tape (i + 1) ≡ []
unfolding line_before
line_emptied means tape i e = rw add-one (after_passed (is_cut means tape) (before i) i e)

pub line_more : (means : Meanings) (tape : List ℕ) (i : ℕ) → is_cut means tape i ≡ false → line_before means tape (i + 1) ≡ line_before means tape i ++ i ∷ []
unfolding line_before
line_more means tape i e = rw add-one (after_kept (is_cut means tape) (before i) i e)

pub items_emptied : (means : Meanings) (widths : WidthFile) (tape : List ℕ) (i : ℕ) → is_cut means tape i ≡ true → items_before means widths tape (i + 1) ≡ []
unfolding items_before
items_emptied means widths tape i e = rw (line_emptied means tape i e) refl

pub items_more : (means : Meanings) (widths : WidthFile) (tape : List ℕ) (i : ℕ) → is_cut means tape i ≡ false
    → items_before means widths tape (i + 1) ≡ items_before means widths tape i ++ option_to_list (item_at means widths tape i)
unfolding items_before
items_more means widths tape i e =
    rw (line_more means tape i e, filter_map-append (item_at means widths tape) (line_before means tape i) (i ∷ []), filter_map_one (item_at means widths tape) i) refl

pub quad_emptied : (means : Meanings) (tape : List ℕ) (i : ℕ) → is_cut means tape i ≡ true → quad_before means tape (i + 1) ≡ None
unfolding quad_before
quad_emptied means tape i e = rw (line_emptied means tape i e) refl

pub quad_more : (means : Meanings) (tape : List ℕ) (i : ℕ) → is_cut means tape i ≡ false → quad_before means tape (i + 1) ≡ or_else (quad_of (meaning_at means tape i)) (quad_before means tape i)
unfolding quad_before
quad_more means tape i e =
    rw (line_more means tape i e) (last_push (λ j. quad_of (meaning_at means tape j)) (line_before means tape i) i)

lines_pushed : (means : Meanings) (widths : WidthFile) (tape : List ℕ) (i : ℕ)
    → lines_before means widths tape (i + 1) ≡ lines_before means widths tape i ++ map (line_of means widths tape) (filter (is_cast means widths tape) (i ∷ []))
unfolding lines_before
lines_pushed means widths tape i =
    rw (add-one, filter-append (is_cast means widths tape) (before i) (i ∷ []))
    (map-append (line_of means widths tape) (filter (is_cast means widths tape) (before i)) (filter (is_cast means widths tape) (i ∷ [])))

pub lines_kept : (means : Meanings) (widths : WidthFile) (tape : List ℕ) (i : ℕ) → is_cut means tape i ≡ false → lines_before means widths tape (i + 1) ≡ lines_before means widths tape i
lines_kept means widths tape i e =
    lines_pushed means widths tape i ∙ rw e (append-nil (lines_before means widths tape i))

cut_is : (means : Meanings) (widths : WidthFile) (tape : List ℕ) (i : ℕ) (items : List Item) → items ≡ items_before means widths tape i
    → map (line_of means widths tape) (cond (is_filled items) (i ∷ []) []) ≡ option_to_list (line_cut items (quad_before means tape i) i)
cut_is means widths tape i [] e = refl
cut_is means widths tape i (item ∷ rest) e = ap (λ (xs : List Item). record { items = xs; quad = quad_before means tape i; elevate_at = i } ∷ []) (sym e)

pub lines_more : (means : Meanings) (widths : WidthFile) (tape : List ℕ) (i : ℕ) → is_cut means tape i ≡ true
    → lines_before means widths tape (i + 1) ≡ lines_before means widths tape i ++ option_to_list (line_cut (items_before means widths tape i) (quad_before means tape i) i)
lines_more means widths tape i e =
    lines_pushed means widths tape i ∙ rw e (ap (λ xs. lines_before means widths tape i ++ xs) (cut_is means widths tape i (items_before means widths tape i) refl))
