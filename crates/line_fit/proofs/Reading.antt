-- A frame is taken in: from what stands at a position, what stands at the next.
use Rattle.std.proofs.Common.{◌≡◌, ℕ, suc, ◌+◌, ◌<◌, ◌≤◌, true, false, cond, is_some, List, [], ◌∷◌, length, Option, Some, None, refl, sym, ◌∙◌, ap, arith, length-append}
use Rattle.std.specs.Prelude.{option_map, option_to_list, Result, Ok, Err, OnOk}
use Rattle.std.proofs.lemmas.List.{append-nil}
use Rattle.code_table.specs.Tables.{case_of}
use Rattle.code_table.specs.declared.case.Case.TheVariants as cases
use Rattle.code_table.specs.declared.meaning.Meaning.{Meaning}
use Rattle.code_table.specs.declared.meaning.Meaning.TheVariants as meanings
use Rattle.widths.specs.Widths.{WidthFile, width_of}
use Rattle.slug_reader.specs.declared.item.Item.{Item}
use Rattle.slug_reader.specs.declared.item.Item.TheVariants as items
use Rattle.slug_reader.specs.declared.item.Rail.{Rail}
use Rattle.slug_reader.specs.declared.fault.Flaw.TheVariants as flaws
use Rattle.slug_reader.specs.declared.item.Rail.TheVariants as rails
use Rattle.slug_reader.specs.declared.line.Line.{Line}
use Rattle.slug_reader.specs.declared.line.Quad.{Quad}
use Rattle.slug_reader.specs.Positions.{first}
use Rattle.slug_reader.specs.Meanings.{Meanings, selected_by, is_elevate, item_of, frame_at, case_at, meaning_at, rail_at}
use Rattle.slug_reader.specs.Lines.{is_cut, line_before, items_before, quad_before, line_of, line_number, is_filled}
use Rattle.slug_reader.specs.Faults.{flaw_at}
use Rattle.slug_reader.specs.Assembling.{line_cut}
use Rattle.line_check.specs.declared.fault.SetFault.{SetFault}
use Rattle.line_check.specs.Slugs.{misfit}
use Rattle.line_check.specs.Sets.{cause_of, misfit_at, fault_at, set_fault_at}
use Rattle.line_fit.specs.declared.pending.Pending.{Pending}
use Rattle.line_fit.specs.declared.verdict.Verdict.{Verdict}
use Rattle.line_fit.specs.declared.verdict.Verdict.TheVariants.{Nothing, Faulty, Sets}
use Rattle.line_fit.specs.declared.verdict.LineFit.{LineFit}
use Rattle.line_fit.specs.Fitting.{line_fault, IsVerdict, IsFit}
use Rattle.line_fit.specs.Pending.{cause_in, cause_by, Stands, IsRead, IsTaken, read_fault, misfit_in, cut_fault, IsVerdictOf, IsFitOf}
use Rattle.line_fit.proofs.Lists.{or_else_none, first_push}
use Rattle.line_fit.proofs.Looking.{case_more, rail_more, line_emptied, line_more, items_emptied, items_more, quad_emptied, quad_more, number_cut, number_kept, number_first}

-- what goes into the line tells whether the frame can be read
by_width : (name : List ℕ) (rail : Rail) (o : Option ℕ) → cause_by (Some (meanings.Matrix name)) (option_map (λ width. items.Matrix name rail width) o) ≡ option_map cause_of (cond (is_some o) None (Some flaws.NoWidth))
by_width name rail None = refl
by_width name rail (Some width) = refl

pub cause_is : (widths : WidthFile) (rail : Rail) (m : Meaning) → cause_by (Some m) (item_of widths rail (Some m)) ≡ cause_in widths (Some m)
cause_is widths rail (meanings.Matrix name) = by_width name rail (width_of widths name)
cause_is widths rail meanings.Shift = refl
cause_is widths rail meanings.Unshift = refl
cause_is widths rail meanings.Elevate = refl
cause_is widths rail meanings.Return = refl
cause_is widths rail meanings.Spaceband = refl
cause_is widths rail meanings.Thin = refl
cause_is widths rail meanings.En = refl
cause_is widths rail meanings.Em = refl
cause_is widths rail meanings.Upper = refl
cause_is widths rail meanings.Lower = refl
cause_is widths rail meanings.QuadLeft = refl
cause_is widths rail meanings.QuadCenter = refl
cause_is widths rail meanings.QuadRight = refl
cause_is widths rail meanings.Ignore = refl

pub starts : (means : Meanings) (widths : WidthFile) (tape : List ℕ) (p : Pending) → p.case ≡ cases.Unshift → p.rail ≡ rails.Lower → p.items.items ≡ [] → p.quad ≡ None → p.fault ≡ None → p.line ≡ 1 → Stands means widths tape 0 p
unfolding case_at rail_at items_before quad_before line_before
starts means widths tape p case rail items quad fault line = record {
  case = case;
  rail = rail;
  items = items;
  quad = quad;
  fault = fault;
  line = line ∙ sym (number_first means tape);
  few = rw items (omega arith);
  short = omega (arith, line);
}

meaning_is : (means : Meanings) (widths : WidthFile) (tape : List ℕ) (i : ℕ) (p : Pending) → Stands means widths tape i p → means p.case (frame_at tape i) ≡ meaning_at means tape i
unfolding meaning_at
meaning_is means widths tape i p s = ap (λ c. means c (frame_at tape i)) s.case

pub cut_is : (means : Meanings) (widths : WidthFile) (tape : List ℕ) (i : ℕ) (p : Pending) → Stands means widths tape i p → is_elevate (means p.case (frame_at tape i)) ≡ is_cut means tape i
unfolding is_cut
cut_is means widths tape i p s = ap is_elevate (meaning_is means widths tape i p s)

one_at_most : {A : Type 0} (o : Option A) → length (option_to_list o) ≤ 1
one_at_most None = omega arith
one_at_most (Some x) = omega arith

pub taken_is :
    (means : Meanings) (widths : WidthFile) (tape : List ℕ) (i : ℕ) (m : Option Meaning) (old new : Pending) → Stands means widths tape i old
    → m ≡ means old.case (frame_at tape i) → case_of m ≡ selected_by means (frame_at tape i) → IsRead widths i m old new → IsTaken means widths tape i new
taken_is means widths tape i m old new s e alike r =
    let is : m ≡ meaning_at means tape i = e ∙ meaning_is means widths tape i old s in
    record {
      case = r.case ∙ rw (alike, s.case) (sym (case_more means tape i));
      rail = r.rail ∙ rw (is, s.rail) (sym (rail_more means tape i));
      items = r.items ∙ rw (is, s.items, s.rail) refl;
      quad = r.quad ∙ rw (is, s.quad) refl;
      fault = r.fault ∙ rw (is, s.fault, s.line) refl;
      line = r.line ∙ s.line;
      few = omega (arith, ap length r.items, length-append old.items.items (option_to_list (item_of widths old.rail m)), one_at_most (item_of widths old.rail m), s.few);
      short = omega (arith, r.line, s.short);
    }

-- the fault of a frame that does not cut the line
fault_kept : (means : Meanings) (widths : WidthFile) (tape : List ℕ) (i : ℕ) → is_cut means tape i ≡ false → set_fault_at means widths tape i ≡ read_fault means widths tape i
unfolding set_fault_at flaw_at
fault_kept means widths tape i e = rw e (ap (option_map (fault_at means tape i)) (or_else_none _))

pub kept_on : (means : Meanings) (widths : WidthFile) (tape : List ℕ) (i : ℕ) (p : Pending) → i < length tape → is_cut means tape i ≡ false → IsTaken means widths tape i p → Stands means widths tape (suc i) p
kept_on means widths tape i p lt e t = record {
  case = t.case;
  rail = t.rail;
  items = t.items ∙ sym (items_more means widths tape i e);
  quad = t.quad ∙ sym (quad_more means tape i e);
  fault = t.fault ∙ rw (← (fault_kept means widths tape i e), line_more means tape i e) (sym (first_push (set_fault_at means widths tape) (line_before means tape i) i));
  line = t.line ∙ sym (number_kept means tape i lt e);
  few = t.few;
  short = omega (arith, t.short);
}

-- what cuts the line is an elevate code
elevate_is : (m : Option Meaning) → is_elevate m ≡ true → m ≡ Some meanings.Elevate
elevate_is None h = absurd cc
elevate_is (Some (meanings.Matrix name)) h = absurd cc
elevate_is (Some meanings.Shift) h = absurd cc
elevate_is (Some meanings.Unshift) h = absurd cc
elevate_is (Some meanings.Elevate) h = refl
elevate_is (Some meanings.Return) h = absurd cc
elevate_is (Some meanings.Spaceband) h = absurd cc
elevate_is (Some meanings.Thin) h = absurd cc
elevate_is (Some meanings.En) h = absurd cc
elevate_is (Some meanings.Em) h = absurd cc
elevate_is (Some meanings.Upper) h = absurd cc
elevate_is (Some meanings.Lower) h = absurd cc
elevate_is (Some meanings.QuadLeft) h = absurd cc
elevate_is (Some meanings.QuadCenter) h = absurd cc
elevate_is (Some meanings.QuadRight) h = absurd cc
elevate_is (Some meanings.Ignore) h = absurd cc

elevates : (means : Meanings) (tape : List ℕ) (i : ℕ) → is_cut means tape i ≡ true → meaning_at means tape i ≡ Some meanings.Elevate
unfolding is_cut
elevates means tape i e = elevate_is (meaning_at means tape i) e

-- what is in hand where the line is cut
pub record CutAt (means : Meanings) (widths : WidthFile) (tape : List ℕ) (i : ℕ) (p : Pending) : Type 0 where
  pub items : p.items.items ≡ items_before means widths tape i
  pub quad : p.quad ≡ quad_before means tape i
  pub fault : p.fault ≡ first (set_fault_at means widths tape) (line_before means tape i)
  pub line : p.line ≡ line_number means tape i

pub cut_at : (means : Meanings) (widths : WidthFile) (tape : List ℕ) (i : ℕ) (p : Pending) → is_cut means tape i ≡ true → IsTaken means widths tape i p → CutAt means widths tape i p
cut_at means widths tape i p e t =
    let m = elevates means tape i e in
    record {
      items = t.items ∙ rw m (append-nil (items_before means widths tape i));
      quad = t.quad ∙ rw m refl;
      fault = t.fault ∙ rw m (or_else_none _);
      line = t.line;
    }

-- the fault of a frame that cuts the line
fault_cut : (means : Meanings) (widths : WidthFile) (tape : List ℕ) (i : ℕ) → is_cut means tape i ≡ true → set_fault_at means widths tape i ≡ option_map (fault_at means tape i) (misfit_at means widths tape i)
unfolding set_fault_at flaw_at
fault_cut means widths tape i e = rw (elevates means tape i e) refl

misfit_is : (means : Meanings) (widths : WidthFile) (tape : List ℕ) (i : ℕ) (items : List Item) → items ≡ items_before means widths tape i
    → cond (is_filled items) (misfit widths (line_of means widths tape i)) None ≡ misfit_in widths (line_cut items (quad_before means tape i) i)
misfit_is means widths tape i [] e = refl
misfit_is means widths tape i (item ∷ items) e = ap (λ xs. misfit widths (record { items = xs; quad = quad_before means tape i; elevate_at = i })) (sym e)

misfit_cut : (means : Meanings) (widths : WidthFile) (tape : List ℕ) (i : ℕ) → is_cut means tape i ≡ true → misfit_at means widths tape i ≡ misfit_in widths (line_cut (items_before means widths tape i) (quad_before means tape i) i)
misfit_cut means widths tape i e = rw e (misfit_is means widths tape i (items_before means widths tape i) refl)

fault_of_cut : (means : Meanings) (widths : WidthFile) (tape : List ℕ) (i : ℕ) (p : Pending) → is_cut means tape i ≡ true → CutAt means widths tape i p → cut_fault widths p.fault (line_cut (items_before means widths tape i) (quad_before means tape i) i) i p.line ≡ line_fault means widths tape i
fault_of_cut means widths tape i p e c =
    rw (c.fault, c.line, first_push (set_fault_at means widths tape) (line_before means tape i) i, fault_cut means widths tape i e, misfit_cut means widths tape i e) refl

none_cut : (items : List Item) (quad : Option Quad) (at : ℕ) → line_cut items quad at ≡ None → items ≡ []
none_cut [] quad at h = refl
none_cut (item ∷ items) quad at h = absurd cc

some_cut : (items : List Item) (quad : Option Quad) (at : ℕ) (l : Line) → line_cut items quad at ≡ Some l → l ≡ record { items = items; quad = quad; elevate_at = at }
some_cut [] quad at l h = absurd cc
some_cut (item ∷ items) quad at l h = cc

verdict_is : (means : Meanings) (widths : WidthFile) (tape : List ℕ) (i : ℕ) (fault : Option SetFault) (v : Verdict) → fault ≡ line_fault means widths tape i → IsVerdictOf widths (line_cut (items_before means widths tape i) (quad_before means tape i) i) fault v → IsVerdict means widths tape i v
verdict_is means widths tape i fault (Faulty told) e h = sym e ∙ h
verdict_is means widths tape i fault Nothing e h = (sym e ∙ h.0, none_cut _ _ i h.1)
verdict_is means widths tape i fault (Sets slug) e h =
    let line : h.1.0 ≡ line_of means widths tape i = some_cut _ _ i h.1.0 h.1.1 in
    (sym e ∙ h.0, rw line at h.1.2)

pub fit_is : (means : Meanings) (widths : WidthFile) (tape : List ℕ) (i : ℕ) (p : Pending) (fit : LineFit) → is_cut means tape i ≡ true → IsTaken means widths tape i p → IsFitOf widths p i fit → IsFit means widths tape i fit
fit_is means widths tape i p fit e t f =
    let c = cut_at means widths tape i p e t in
    record {
      place = f.place;
      line = f.line ∙ rw (c.items, c.quad) refl;
      least = f.least ∙ rw c.items refl;
      greatest = f.greatest ∙ rw c.items refl;
      verdict = verdict_is means widths tape i _ fit.verdict (fault_of_cut means widths tape i p e c) (rw (c.items, c.quad) at f.verdict);
    }

pub cut_on :
    (means : Meanings) (widths : WidthFile) (tape : List ℕ) (i : ℕ) (p new : Pending) → i < length tape → is_cut means tape i ≡ true → IsTaken means widths tape i p
    → new.items.items ≡ [] → new.quad ≡ None → new.fault ≡ None → new.case ≡ p.case → new.rail ≡ p.rail → new.line ≡ p.line + 1 → Stands means widths tape (suc i) new
cut_on means widths tape i p new lt e t items quad fault case rail line = record {
  case = case ∙ t.case;
  rail = rail ∙ t.rail;
  items = items ∙ sym (items_emptied means widths tape i e);
  quad = quad ∙ sym (quad_emptied means tape i e);
  fault = fault ∙ rw (line_emptied means tape i e) refl;
  line = omega (arith, line, t.line, number_cut means tape i lt e);
  few = rw items (omega arith);
  short = omega (arith, line, t.short);
}

pub on_ok : {A E : Type 0} (r : Result A E) (P Q : Type 0) → OnOk r P → (P → Q) → OnOk r Q
on_ok (Ok x) P Q h f = f h
on_ok (Err e) P Q h f = tt
