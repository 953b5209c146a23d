-- The assembler stands for the tape so far, frame by frame.
use Rattle.std.proofs.Common.{◌≡◌, ℕ, ◌+◌, true, false, List, [], ◌++◌, Option, Some, None, refl, sym, ◌∙◌, ap}
use Rattle.std.specs.Prelude.{option_to_list, unwrap_or}
use Rattle.std.proofs.lemmas.List.{append-nil}
use Rattle.code_table.specs.declared.case.Case.TheVariants as cases
use Rattle.code_table.specs.declared.meaning.Meaning.{Meaning}
use Rattle.code_table.specs.declared.meaning.Meaning.TheVariants as meanings
use Rattle.widths.specs.Widths.{WidthFile}
use Rattle.slug_reader.specs.declared.item.Rail.TheVariants as rails
use Rattle.slug_reader.specs.declared.assembler.Assembler.{Assembler}
use Rattle.slug_reader.specs.declared.assembler.Taken.TheVariants.{Kept, Cut}
use Rattle.slug_reader.specs.Positions.{or_else}
use Rattle.slug_reader.specs.Meanings.{Meanings, selected_by, rail_of, quad_of, is_elevate, frame_at, case_at, meaning_at, rail_at}
use Rattle.slug_reader.specs.Lines.{is_cut, items_before, quad_before, line_before, lines_before}
use Rattle.slug_reader.specs.Assembling.{Keeps, Takes, Stands, line_cut}
use Rattle.slug_reader.proofs.Looking.{case_more, rail_more, items_emptied, items_more, quad_emptied, quad_more, lines_kept, lines_more}

-- at the start there is nothing to look back on
pub stands_start : (means : Meanings) (widths : WidthFile) (tape : List ℕ) (a : Assembler)
    → a.case ≡ cases.Unshift → a.rail ≡ rails.Lower → a.items.items ≡ [] → a.quad ≡ None → Stands means widths tape 0 a
unfolding case_at rail_at items_before quad_before line_before
stands_start means widths tape a case rail items quad = record { case = case; rail = rail; items = items; quad = quad }

-- the meaning that the assembler looks up
pub meaning_is : (means : Meanings) (widths : WidthFile) (tape : List ℕ) (i : ℕ) (a : Assembler) → Stands means widths tape i a
    → means a.case (frame_at tape i) ≡ meaning_at means tape i
unfolding meaning_at
meaning_is means widths tape i a s = ap (λ c. means c (frame_at tape i)) s.case

elevate : (m : Option Meaning) → is_elevate m ≡ true → m ≡ Some meanings.Elevate
elevate None e = absurd cc
elevate (Some (meanings.Matrix name)) e = absurd cc
elevate (Some meanings.Shift) e = absurd cc
elevate (Some meanings.Unshift) e = absurd cc
elevate (Some meanings.Elevate) e = refl
elevate (Some meanings.Return) e = absurd cc
elevate (Some meanings.Spaceband) e = absurd cc
elevate (Some meanings.Thin) e = absurd cc
elevate (Some meanings.En) e = absurd cc
elevate (Some meanings.Em) e = absurd cc
elevate (Some meanings.Upper) e = absurd cc
elevate (Some meanings.Lower) e = absurd cc
elevate (Some meanings.QuadLeft) e = absurd cc
elevate (Some meanings.QuadCenter) e = absurd cc
elevate (Some meanings.QuadRight) e = absurd cc
elevate (Some meanings.Ignore) e = absurd cc

-- a frame that is kept
pub stands_kept : (means : Meanings) (widths : WidthFile) (tape : List ℕ) (i : ℕ) (a b : Assembler)
    → Stands means widths tape i a → Takes means widths (frame_at tape i) a b Kept → Stands means widths tape (i + 1) b
unfolding is_cut
stands_kept means widths tape i a b s t =
    let m = meaning_is means widths tape i a s in
    let keeps : Keeps means widths (frame_at tape i) (meaning_at means tape i) a b = rw m at t.0 in
    let kept : is_elevate (meaning_at means tape i) ≡ false = rw m at t.1 in
    record {
      case = keeps.case ∙ (ap (unwrap_or (selected_by means (frame_at tape i))) s.case ∙ sym (case_more means tape i));
      rail = keeps.rail ∙ (ap (unwrap_or (rail_of (meaning_at means tape i))) s.rail ∙ sym (rail_more means tape i));
      items = keeps.items ∙ (rw (s.items, s.rail) (sym (items_more means widths tape i kept)));
      quad = keeps.quad ∙ (ap (or_else (quad_of (meaning_at means tape i))) s.quad ∙ sym (quad_more means tape i kept));
    }

-- a frame that cuts the line keeps the items and the quad
pub cut_keeps : (means : Meanings) (widths : WidthFile) (tape : List ℕ) (i : ℕ) (a b : Assembler)
    → Stands means widths tape i a → Takes means widths (frame_at tape i) a b Cut
    → (is_cut means tape i ≡ true) × (b.items.items ≡ items_before means widths tape i) × (b.quad ≡ quad_before means tape i)
    × (b.case ≡ case_at means tape (i + 1)) × (b.rail ≡ rail_at means tape (i + 1))
unfolding is_cut
cut_keeps means widths tape i a b s t =
    let m = meaning_is means widths tape i a s in
    let keeps : Keeps means widths (frame_at tape i) (meaning_at means tape i) a b = rw m at t.0 in
    let cut : is_elevate (meaning_at means tape i) ≡ true = rw m at t.1 in
    let it : meaning_at means tape i ≡ Some meanings.Elevate = elevate (meaning_at means tape i) cut in
    let plain : Keeps means widths (frame_at tape i) (Some meanings.Elevate) a b = rw it at keeps in (
      cut,
      plain.items ∙ (append-nil a.items.items ∙ s.items),
      plain.quad ∙ s.quad,
      keeps.case ∙ (ap (unwrap_or (selected_by means (frame_at tape i))) s.case ∙ sym (case_more means tape i)),
      keeps.rail ∙ (ap (unwrap_or (rail_of (meaning_at means tape i))) s.rail ∙ sym (rail_more means tape i)),
    )

-- after a cut the line begins anew
pub stands_cut : (means : Meanings) (widths : WidthFile) (tape : List ℕ) (i : ℕ) (a b c : Assembler)
    → Stands means widths tape i a → Takes means widths (frame_at tape i) a b Cut
    → c.items.items ≡ [] → c.quad ≡ None → c.case ≡ b.case → c.rail ≡ b.rail → Stands means widths tape (i + 1) c
stands_cut means widths tape i a b c s t items quad case rail =
    let h = cut_keeps means widths tape i a b s t in
    record {
      case = case ∙ h.3;
      rail = rail ∙ h.4;
      items = items ∙ sym (items_emptied means widths tape i h.0);
      quad = quad ∙ sym (quad_emptied means tape i h.0);
    }

-- the lines after a cut
pub lines_cut : (means : Meanings) (widths : WidthFile) (tape : List ℕ) (i : ℕ) (a b : Assembler)
    → Stands means widths tape i a → Takes means widths (frame_at tape i) a b Cut
    → lines_before means widths tape (i + 1) ≡ lines_before means widths tape i ++ option_to_list (line_cut b.items.items b.quad i)
lines_cut means widths tape i a b s t =
    let h = cut_keeps means widths tape i a b s t in
    rw (h.1, h.2) (lines_more means widths tape i h.0)

-- the lines after a frame that is kept
pub lines_same : (means : Meanings) (widths : WidthFile) (tape : List ℕ) (i : ℕ) (a b : Assembler)
    → Stands means widths tape i a → Takes means widths (frame_at tape i) a b Kept
    → lines_before means widths tape (i + 1) ≡ lines_before means widths tape i
unfolding is_cut
lines_same means widths tape i a b s t =
    lines_kept means widths tape i (rw (meaning_is means widths tape i a s) at t.1)
