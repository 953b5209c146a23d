-- A tape that is set piece by piece.
use Rattle.std.proofs.Common.{◌≡◌, ℕ, zero, suc, ◌+◌, ◌<◌, ◌≤◌, Bool, true, false, cond, leb, List, [], ◌∷◌, ◌++◌, length, drop, get_or, Option, Some, None, refl, sym, subst, ◌∙◌, ap, arith, le-ltb, length-append}
use Rattle.std.specs.Prelude.{option_map, Result, Ok, Err}
use Rattle.std.specs.declared.vec.Vec.{Vec}
use Rattle.std.specs.Global.{Global}
use Rattle.std.proofs.lemmas.Bool.Decides.{nat_tests}
use Rattle.std.proofs.lemmas.List.{get_or-drop, get_or_append_left, length-drop, drop-drop, drop_at}
use Rattle.tape_frames.specs.Frames.{most_frames, IsTape, AreFrames}
use Rattle.code_table.specs.Tables.{mean}
use Rattle.widths.specs.Widths.{WidthFile}
use Rattle.slug_reader.specs.declared.line.Line.{Line}
use Rattle.slug_reader.specs.declared.fault.Flaw.{Flaw}
use Rattle.slug_reader.specs.declared.fault.Flaw.TheVariants as flaws
use Rattle.slug_reader.specs.declared.fault.ReadFault.{ReadFault}
use Rattle.slug_reader.specs.declared.fault.ReadFault.TheVariants as faults
use Rattle.slug_reader.specs.Meanings.{Meanings, frame_at}
use Rattle.slug_reader.specs.Lines.{lines_before, is_filled, items_before}
use Rattle.slug_reader.specs.Faults as reading
use Rattle.slug_reader.specs.Pieces.{InHand, StandsAt, first_met, MetFault, Pushed, TookPiece, Finished, IsPiece, AreLinesBetween, is_memory}
use Rattle.slug_reader.specs.Pieces as pieces
use Rattle.line_check.specs.declared.slug.Slug.{Slug}
use Rattle.line_check.specs.declared.fault.Cause.{Cause}
use Rattle.line_check.specs.declared.tape.Unset.{Unset}
use Rattle.line_check.specs.declared.tape.Unset.TheVariants as unset
use Rattle.line_check.specs.Sets.{first_fault, fault_at, Sets}
use Rattle.line_check.specs.Spreading.{misfit_among}
use Rattle.line_check.specs.Setting.{is_too_long, IsUnsetBy, IsFirstMisfit, IsFirstFault, AddsSlugs, Tells, SetTo}
use Rattle.line_check.proofs.FirstFault.{AreRead, none_before, mapped_none, misfit_append, first_misfit, first_flaw, first_end}

frame_small : (tape : List ℕ) → AreFrames tape → (i : ℕ) → i < length tape → frame_at tape i ≤ 63
frame_small [] small i lt = absurd (omega (arith, lt))
frame_small (frame ∷ rest) small zero lt = omega (arith, small.0)
frame_small (frame ∷ rest) small (suc i) lt = frame_small rest small.1 i (omega (arith, lt))

has_room : (i : ℕ) → i < most_frames → leb most_frames i ≡ false
has_room i lt = grind (arith, nat_tests)

-- of a tape a reader finds faulty just the frames that are faulty
tape_fault : (means : Meanings) (widths : WidthFile) (tape : List ℕ) → IsTape tape → (i : ℕ) → i < length tape
    → pieces.fault_at means widths tape i ≡ option_map (reading.fault_with i) (reading.flaw_at means widths tape i)
unfolding pieces.fault_at reading.frame_fault_at
tape_fault means widths tape is i lt =
    rw (has_room i (omega (arith, lt, is.few)), le-ltb 63 (frame_at tape i) (frame_small tape is.small i lt)) refl

-- what a reader took in can be read
pub are_read : (means : Meanings) (widths : WidthFile) (tape : List ℕ) → IsTape tape → (i : ℕ) → i ≤ length tape → first_met means widths tape i ≡ None → AreRead means widths tape i
unfolding first_met
are_read means widths tape is i le clean j lt =
    mapped_none (reading.fault_with j) (reading.flaw_at means widths tape j)
    (sym (tape_fault means widths tape is j (omega (arith, lt, le))) ∙ none_before (pieces.fault_at means widths tape) i clean j lt)

told_flaw : (means : Meanings) (widths : WidthFile) (tape : List ℕ) (i : ℕ) (f : ReadFault) → i < length tape → AreRead means widths tape i
    → misfit_among widths (lines_before means widths tape i) ≡ None → (flaw : Option Flaw) → reading.flaw_at means widths tape i ≡ flaw → option_map (reading.fault_with i) flaw ≡ Some f → Tells means widths tape f
told_flaw means widths tape i f lt read fit None some e = absurd cc
told_flaw means widths tape i f lt read fit (Some flaws.UnknownCode) some e =
    let same : faults.UnknownCode i ≡ f = cc in
    subst (Tells means widths tape) same (first_flaw means widths tape i flaws.UnknownCode lt read fit some)
told_flaw means widths tape i f lt read fit (Some flaws.NoWidth) some e =
    let same : faults.NoWidth i ≡ f = cc in
    subst (Tells means widths tape) same (first_flaw means widths tape i flaws.NoWidth lt read fit some)

-- the fault that is met, where the lines before it fit
met_told : (r : InHand) (tape : List ℕ) → IsTape tape → (i j : ℕ) (lines : List Line) (f : ReadFault) → j ≤ length tape → (met : MetFault r tape i j lines f)
    → misfit_among r.widths (lines_before (mean r.table) r.widths tape met.place) ≡ None → Tells (mean r.table) r.widths tape f
met_told r tape is i j lines f le met fit =
    let lt : met.place < length tape = omega (arith, met.high, le) in
    let read = are_read (mean r.table) r.widths tape is met.place (omega (arith, lt)) met.clean in
    told_flaw (mean r.table) r.widths tape met.place f lt read fit (reading.flaw_at (mean r.table) r.widths tape met.place) refl
    (sym (tape_fault (mean r.table) r.widths tape is met.place lt) ∙ met.faulty)

-- the lines of a piece fit as those before it do
both_fit : (widths : WidthFile) (xs ys all : List Line) → all ≡ xs ++ ys → misfit_among widths xs ≡ None → misfit_among widths ys ≡ None → misfit_among widths all ≡ None
both_fit widths xs ys all e x y = rw (e, misfit_append widths xs ys, x, y) refl

one_misfits : (widths : WidthFile) (xs ys all : List Line) (found : ℕ × Cause) → all ≡ xs ++ ys → misfit_among widths xs ≡ None → misfit_among widths ys ≡ Some found → misfit_among widths all ≡ Some found
one_misfits widths xs ys all found e x y = rw (e, misfit_append widths xs ys, x, y) refl

-- the answer is this fault
abbrev Fails : (A : Type 0) → Result A ReadFault → ReadFault → Type 0
Fails A result f = result ≡ Err f

differ : (A : Type 0) (x : A) (f : ReadFault) → Fails A (Ok x) f → ⊥
differ A x f e = absurd cc

took : (old new : InHand) (tape : List ℕ) → IsTape tape → (i j : ℕ) (lines : List Line) (slugs after : List Slug) → new.table ≡ old.table → new.widths ≡ old.widths → j ≤ length tape
    → SetTo old tape i slugs None → misfit_among old.widths lines ≡ None → AddsSlugs old.widths lines slugs after
    → (fault : Option ReadFault) → TookPiece old tape i j lines fault new → SetTo new tape j after fault
took old new tape is i j lines slugs after table widths le s fit adds None h =
    let before = lines_before (mean old.table) old.widths tape i in (
      h.0,
      rw (table, widths) (both_fit old.widths before lines (lines_before (mean old.table) old.widths tape j) h.1 s.1 fit),
      rw (table, widths) (rw h.1 (adds before s.2)),
    )
took old new tape is i j lines slugs after table widths le s fit adds (Some f) h =
    let before = lines_before (mean old.table) old.widths tape i in
    let met = h.2 in
    rw (table, widths) (met_told old tape is i j lines f le met (both_fit old.widths before lines (lines_before (mean old.table) old.widths tape met.place) met.lines_are s.1 fit))

-- a piece whose lines have slugs
pub piece_set : (old new : InHand) (tape : List ℕ) → IsTape tape → (i j : ℕ) (lines : Vec Line Global) (slugs after : List Slug) → new.table ≡ old.table → new.widths ≡ old.widths → j ≤ length tape
    → (waits : Option ReadFault) → old.fault ≡ waits → SetTo old tape i slugs waits
    → (StandsAt old tape i → Pushed old tape i j (Ok lines) new) → ((f : ReadFault) → old.fault ≡ Some f → Fails (Vec Line Global) (Ok lines) f)
    → misfit_among old.widths lines.items ≡ None → AddsSlugs old.widths lines.items slugs after → SetTo new tape j after new.fault
piece_set old new tape is i j lines slugs after table widths le None going s pushed failed fit adds =
    took old new tape is i j lines.items slugs after table widths le s fit adds new.fault (pushed s.0)
piece_set old new tape is i j lines slugs after table widths le (Some f) waits s pushed failed fit adds = absurd (differ (Vec Line Global) lines f (failed f waits))

misfit_took : (old new : InHand) (tape : List ℕ) → IsTape tape → (i j at : ℕ) (cause : Cause) (lines : List Line) (slugs : List Slug) → new.table ≡ old.table → new.widths ≡ old.widths → j ≤ length tape
    → SetTo old tape i slugs None → misfit_among old.widths lines ≡ Some (at, cause)
    → (fault : Option ReadFault) → TookPiece old tape i j lines fault new → first_fault (mean old.table) old.widths tape ≡ Some (fault_at (mean old.table) tape at cause)
misfit_took old new tape is i j at cause lines slugs table widths le s found None h =
    let before = lines_before (mean old.table) old.widths tape i in
    let clean : first_met (mean old.table) old.widths tape j ≡ None = rw (table, widths) at h.0.clean in
    first_misfit (mean old.table) old.widths tape j at cause le (are_read (mean old.table) old.widths tape is j le clean)
    (one_misfits old.widths before lines (lines_before (mean old.table) old.widths tape j) (at, cause) h.1 s.1 found)
misfit_took old new tape is i j at cause lines slugs table widths le s found (Some f) h =
    let before = lines_before (mean old.table) old.widths tape i in
    let met = h.2 in
    let lower : met.place ≤ length tape = omega (arith, met.high, le) in
    first_misfit (mean old.table) old.widths tape met.place at cause lower (are_read (mean old.table) old.widths tape is met.place lower met.clean)
    (one_misfits old.widths before lines (lines_before (mean old.table) old.widths tape met.place) (at, cause) met.lines_are s.1 found)

-- a piece with a line that does not fit
pub piece_misfits : (old new : InHand) (tape : List ℕ) → IsTape tape → (i j : ℕ) (lines : Vec Line Global) (slugs : List Slug) (why : Unset) → new.table ≡ old.table → new.widths ≡ old.widths → j ≤ length tape
    → (waits : Option ReadFault) → old.fault ≡ waits → SetTo old tape i slugs waits
    → (StandsAt old tape i → Pushed old tape i j (Ok lines) new) → ((f : ReadFault) → old.fault ≡ Some f → Fails (Vec Line Global) (Ok lines) f)
    → IsFirstMisfit (misfit_among old.widths lines.items) why → IsFirstFault (mean old.table) old.widths tape why
piece_misfits old new tape is i j lines slugs (unset.Faulty at cause) table widths le None going s pushed failed found =
    misfit_took old new tape is i j at cause lines.items slugs table widths le s found new.fault (pushed s.0)
piece_misfits old new tape is i j lines slugs unset.OutOfMemory table widths le None going s pushed failed found = tt
piece_misfits old new tape is i j lines slugs why table widths le (Some f) waits s pushed failed found = absurd (differ (Vec Line Global) lines f (failed f waits))

told_unless : (means : Meanings) (widths : WidthFile) (tape : List ℕ) (f : ReadFault) → (is_memory f ≡ false → Tells means widths tape f) → Tells means widths tape f
told_unless means widths tape (faults.UnknownCode at) h = h refl
told_unless means widths tape (faults.NoWidth at) h = h refl
told_unless means widths tape (faults.Unfinished at) h = h refl
told_unless means widths tape (faults.TooLong at) h = h refl
told_unless means widths tape faults.OutOfMemory h = tt

-- a piece that is answered by a fault
pub piece_told : (old new : InHand) (tape : List ℕ) → IsTape tape → (i j : ℕ) (slugs : List Slug) (f : ReadFault) → j ≤ length tape
    → (waits : Option ReadFault) → old.fault ≡ waits → SetTo old tape i slugs waits
    → (StandsAt old tape i → Pushed old tape i j (Err f) new) → ((g : ReadFault) → old.fault ≡ Some g → Fails (Vec Line Global) (Err f) g)
    → Tells (mean old.table) old.widths tape f
piece_told old new tape is i j slugs f le None going s pushed failed =
    let before = lines_before (mean old.table) old.widths tape i in
    told_unless (mean old.table) old.widths tape f (λ m.
    let met = (pushed s.0).1 m in
    met_told old tape is i j [] f le met (both_fit old.widths before [] (lines_before (mean old.table) old.widths tape met.place) met.lines_are s.1 refl))
piece_told old new tape is i j slugs f le (Some g) waits s pushed failed =
    let same : g ≡ f = cc (failed g waits) in
    subst (Tells (mean old.table) old.widths tape) same s

-- the end of a tape
end_told : (means : Meanings) (widths : WidthFile) (tape : List ℕ) (f : ReadFault) → AreRead means widths tape (length tape) → misfit_among widths (lines_before means widths tape (length tape)) ≡ None
    → (b : Bool) → is_filled (items_before means widths tape (length tape)) ≡ b → cond b (Some (faults.Unfinished (length tape))) None ≡ Some f → Tells means widths tape f
end_told means widths tape f read fit true is e =
    let same : faults.Unfinished (length tape) ≡ f = cc in
    subst (Tells means widths tape) same (first_end means widths tape read fit ∙ rw is refl)
end_told means widths tape f read fit false is e = absurd cc

end_set : (means : Meanings) (widths : WidthFile) (tape : List ℕ) → AreRead means widths tape (length tape) → misfit_among widths (lines_before means widths tape (length tape)) ≡ None
    → (b : Bool) → is_filled (items_before means widths tape (length tape)) ≡ b → cond b (Some (faults.Unfinished (length tape))) None ≡ None → first_fault means widths tape ≡ None
end_set means widths tape read fit true is e = absurd cc
end_set means widths tape read fit false is e = first_end means widths tape read fit ∙ rw is refl

pub finish_told : (r new : InHand) (tape : List ℕ) → IsTape tape → (slugs : List Slug) (f : ReadFault) → (waits : Option ReadFault) → r.fault ≡ waits → SetTo r tape (length tape) slugs waits
    → (StandsAt r tape (length tape) → Finished r tape (length tape) (Err f) new) → ((g : ReadFault) → r.fault ≡ Some g → Fails (Unit {0}) (Err f) g)
    → Tells (mean r.table) r.widths tape f
finish_told r new tape is slugs f None going s finished failed =
    end_told (mean r.table) r.widths tape f (are_read (mean r.table) r.widths tape is (length tape) (omega arith) s.0.clean) s.1
    (is_filled (items_before (mean r.table) r.widths tape (length tape))) refl (finished s.0).0
finish_told r new tape is slugs f (Some g) waits s finished failed =
    let same : g ≡ f = cc (failed g waits) in
    subst (Tells (mean r.table) r.widths tape) same s

pub finish_sets : (r new : InHand) (tape : List ℕ) → IsTape tape → (slugs : List Slug) → (waits : Option ReadFault) → r.fault ≡ waits → SetTo r tape (length tape) slugs waits
    → (StandsAt r tape (length tape) → Finished r tape (length tape) (Ok tt) new) → ((g : ReadFault) → r.fault ≡ Some g → Fails (Unit {0}) (Ok tt) g)
    → Sets (mean r.table) r.widths tape (Ok slugs)
finish_sets r new tape is slugs None going s finished failed = (
  end_set (mean r.table) r.widths tape (are_read (mean r.table) r.widths tape is (length tape) (omega arith) s.0.clean) s.1
      (is_filled (items_before (mean r.table) r.widths tape (length tape))) refl (finished s.0).0,
  s.2,
)
finish_sets r new tape is slugs (Some g) waits s finished failed = absurd (differ (Unit {0}) tt g (failed g waits))

-- what is told is no fault of length, and is handed on as it is
pub told_short : (means : Meanings) (widths : WidthFile) (tape : List ℕ) (f : ReadFault) → Tells means widths tape f → is_too_long f ≡ false
told_short means widths tape (faults.UnknownCode at) h = refl
told_short means widths tape (faults.NoWidth at) h = refl
told_short means widths tape (faults.Unfinished at) h = refl
told_short means widths tape (faults.TooLong at) h = absurd h
told_short means widths tape faults.OutOfMemory h = refl

pub told_on : (means : Meanings) (widths : WidthFile) (tape : List ℕ) (f : ReadFault) (why : Unset) → Tells means widths tape f → IsUnsetBy f why → IsFirstFault means widths tape why
told_on means widths tape (faults.UnknownCode at) why h e = rw e h
told_on means widths tape (faults.NoWidth at) why h e = rw e h
told_on means widths tape (faults.Unfinished at) why h e = rw e h
told_on means widths tape (faults.TooLong at) why h e = absurd h
told_on means widths tape faults.OutOfMemory why h e = rw e tt

-- at the start of a tape
pub set_start : (r : InHand) (tape : List ℕ) (slugs : List Slug) → StandsAt r tape 0 → slugs ≡ [] → SetTo r tape 0 slugs r.fault
unfolding lines_before
set_start r tape slugs s none = subst (SetTo r tape 0 slugs) (sym s.going) (s, refl, rw none tt)

-- a piece that comes off the front of what is left of a tape
pub piece_is : (tape : List ℕ) (i : ℕ) (piece rest : List ℕ) → i ≤ length tape → drop i tape ≡ piece ++ rest → IsPiece tape i piece
piece_is tape i piece rest le e =
    let sizes : length (drop i tape) ≡ length piece + length rest = ap length e ∙ length-append piece rest in
    record {
      within = omega (arith, sizes, length-drop i tape, le);
      frames = λ k lt. sym (get_or-drop i tape k 0) ∙ ap (λ xs. get_or xs k 0) e ∙ get_or_append_left piece rest 0 k lt;
    }

pub rest_left : (tape : List ℕ) (i : ℕ) (piece rest : List ℕ) → drop i tape ≡ piece ++ rest → drop (i + length piece) tape ≡ rest
rest_left tape i piece rest e = sym (drop-drop (length piece) i tape) ∙ ap (drop (length piece)) e ∙ drop_at piece rest (length piece) refl

pub at_end : (tape : List ℕ) (i : ℕ) (rest : List ℕ) → i ≤ length tape → drop i tape ≡ rest → length rest ≡ 0 → i ≡ length tape
at_end tape i rest le e none =
    let size = ap length e in
    omega (arith, le, size, none, length-drop i tape)
