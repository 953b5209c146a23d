-- A reader stands at a position of a tape, and one frame further.
use Rattle.std.proofs.Common.{◌≡◌, ℕ, ◌+◌, ◌<◌, ◌≤◌, false, leb, List, [], ◌++◌, Option, Some, None, refl, sym, ◌∙◌, ap, arith, inl, inr, add-one, append_assoc, length, lt-ltb, le-ltb, le-leb}
use Rattle.std.specs.Prelude.{option_map, option_to_list, Result, Ok, Err}
use Rattle.std.specs.declared.vec.Vec.{Vec}
use Rattle.std.specs.Global.{Global}
use Rattle.std.proofs.lemmas.Bool.{cases_lt}
use Rattle.std.proofs.lemmas.Bool.Decides.{nat_tests}
use Rattle.tape_frames.specs.Frames.{most_frames}
use Rattle.code_table.specs.Tables.{mean}
use Rattle.widths.specs.Widths.{WidthFile}
use Rattle.slug_reader.specs.declared.line.Line.{Line}
use Rattle.slug_reader.specs.declared.fault.Flaw.{Flaw}
use Rattle.slug_reader.specs.declared.fault.Flaw.TheVariants as flaws
use Rattle.slug_reader.specs.declared.fault.ReadFault.{ReadFault}
use Rattle.slug_reader.specs.declared.fault.ReadFault.TheVariants as faults
use Rattle.slug_reader.specs.declared.assembler.Assembler.{Assembler}
use Rattle.slug_reader.specs.declared.assembler.Taken.TheVariants.{Kept, Cut, Flawed}
use Rattle.slug_reader.specs.Positions.{before}
use Rattle.slug_reader.specs.Meanings.{Meanings, frame_at, meaning_at}
use Rattle.slug_reader.specs.Lines.{lines_before}
use Rattle.slug_reader.specs.Faults.{frame_flaw, flaw_at, frame_fault_at, fault_with}
use Rattle.slug_reader.specs.Assembling.{Takes, Stands, line_cut}
use Rattle.slug_reader.specs.Pieces.{InHand, StandsAt, fault_at, first_met, Steps, IsStopped, MetFault, Pushed, IsPiece, AreLinesBetween, is_memory}
use Rattle.slug_reader.proofs.Lists.{first_push}
use Rattle.slug_reader.proofs.Assembly.{stands_kept, stands_cut, lines_same, lines_cut, meaning_is}

pub starts : (r : InHand) (tape : List ℕ) → Stands (mean r.table) r.widths tape 0 r.line → r.taken ≡ 0 → r.fault ≡ None → StandsAt r tape 0
unfolding first_met
starts r tape stands taken going = record { stands = stands; taken = taken; clean = refl; going = going }

pub one_too_many : (means : Meanings) (widths : WidthFile) (tape : List ℕ) (i : ℕ) → most_frames ≤ i → fault_at means widths tape i ≡ Some (faults.TooLong i)
unfolding fault_at
one_too_many means widths tape i e = rw (le-leb most_frames i e) refl

-- a byte that is no frame means nothing
abbrev pub IsUnknownAbove : Meanings → List ℕ → ℕ → Type 0
IsUnknownAbove means tape i = 64 ≤ frame_at tape i → meaning_at means tape i ≡ None

pub above_is : (r : InHand) (tape : List ℕ) (i frame : ℕ) → StandsAt r tape i → frame_at tape i ≡ frame → (64 ≤ frame → mean r.table r.line.case frame ≡ None) → IsUnknownAbove (mean r.table) tape i
above_is r tape i frame s f above = λ high. sym (meaning_is (mean r.table) r.widths tape i r.line s.stands) ∙ rw (← f) at (above (rw f at high))

pub within : (i : ℕ) → i < most_frames → leb most_frames i ≡ false
within i l = grind (arith, nat_tests)

-- what is wrong with a frame that a tape has room for
pub fault_is : (means : Meanings) (widths : WidthFile) (tape : List ℕ) (i : ℕ) → i < most_frames → IsUnknownAbove means tape i
    → fault_at means widths tape i ≡ option_map (fault_with i) (frame_flaw widths (meaning_at means tape i))
unfolding fault_at frame_fault_at flaw_at
fault_is means widths tape i l above =
    elim (cases_lt 63 (frame_at tape i)) [
      | inl more ↦ let none = above (omega (arith, more)) in rw (within i l, lt-ltb 63 (frame_at tape i) more, none) refl
      | inr fits ↦ rw (within i l, le-ltb 63 (frame_at tape i) fits) refl
    ]

pub first_more : (means : Meanings) (widths : WidthFile) (tape : List ℕ) (i : ℕ) → first_met means widths tape i ≡ None → first_met means widths tape (i + 1) ≡ fault_at means widths tape i
unfolding first_met
first_more means widths tape i clean = rw (add-one, first_push (fault_at means widths tape) (before i) i, clean) refl

fine_frame : (means : Meanings) (widths : WidthFile) (tape : List ℕ) (i : ℕ) → i < most_frames → IsUnknownAbove means tape i → first_met means widths tape i ≡ None → frame_flaw widths (meaning_at means tape i) ≡ None → first_met means widths tape (i + 1) ≡ None
fine_frame means widths tape i l above clean fine = first_more means widths tape i clean ∙ fault_is means widths tape i l above ∙ rw fine refl

-- a frame that is kept
pub kept_on :
    (old new : InHand) (tape : List ℕ) (i : ℕ) (lines : List Line)
    → StandsAt old tape i → i < most_frames → IsUnknownAbove (mean old.table) tape i → new.table ≡ old.table → new.widths ≡ old.widths → new.taken ≡ i + 1 → new.fault ≡ old.fault
    → Takes (mean old.table) old.widths (frame_at tape i) old.line new.line Kept
    → ((start : List Line) → lines_before (mean old.table) old.widths tape i ≡ start ++ lines → lines_before (mean old.table) old.widths tape (i + 1) ≡ start ++ lines) × StandsAt new tape (i + 1)
kept_on old new tape i lines s l above table widths taken fault t =
    let fine : frame_flaw old.widths (meaning_at (mean old.table) tape i) ≡ None = rw (meaning_is (mean old.table) old.widths tape i old.line s.stands) at t.0.fine in (
      (λ start e. lines_same (mean old.table) old.widths tape i old.line new.line s.stands t ∙ e),
      record {
        stands = rw (table, widths) (stands_kept (mean old.table) old.widths tape i old.line new.line s.stands t);
        taken = taken;
        clean = rw (table, widths) (fine_frame (mean old.table) old.widths tape i l above s.clean fine);
        going = fault ∙ s.going;
      },
    )

-- a frame that cuts the line
pub cut_on :
    (old new : InHand) (tape : List ℕ) (i : ℕ) (lines after : List Line) (b : Assembler) (line : Option Line)
    → StandsAt old tape i → i < most_frames → IsUnknownAbove (mean old.table) tape i → new.table ≡ old.table → new.widths ≡ old.widths → new.taken ≡ i + 1 → new.fault ≡ old.fault
    → Takes (mean old.table) old.widths (frame_at tape i) old.line b Cut
    → line ≡ line_cut b.items.items b.quad i → new.line.items.items ≡ [] → new.line.quad ≡ None → new.line.case ≡ b.case → new.line.rail ≡ b.rail
    → after ≡ lines ++ option_to_list line
    → ((start : List Line) → lines_before (mean old.table) old.widths tape i ≡ start ++ lines → lines_before (mean old.table) old.widths tape (i + 1) ≡ start ++ after) × StandsAt new tape (i + 1)
cut_on old new tape i lines after b line s l above table widths taken fault t is items quad case rail added =
    let fine : frame_flaw old.widths (meaning_at (mean old.table) tape i) ≡ None = rw (meaning_is (mean old.table) old.widths tape i old.line s.stands) at t.0.fine in (
      (λ start e. lines_cut (mean old.table) old.widths tape i old.line b s.stands t ∙ rw (← is, e) (append_assoc start lines (option_to_list line) ∙ ap (λ xs. start ++ xs) (sym added))),
      record {
        stands = rw (table, widths) (stands_cut (mean old.table) old.widths tape i old.line b new.line s.stands t items quad case rail);
        taken = taken;
        clean = rw (table, widths) (fine_frame (mean old.table) old.widths tape i l above s.clean fine);
        going = fault ∙ s.going;
      },
    )

-- a faulty frame
pub flawed_here : (old : InHand) (tape : List ℕ) (i : ℕ) (b : Assembler) (flaw : Flaw) → StandsAt old tape i → i < most_frames → IsUnknownAbove (mean old.table) tape i → Takes (mean old.table) old.widths (frame_at tape i) old.line b (Flawed flaw) → fault_at (mean old.table) old.widths tape i ≡ Some (fault_with i flaw)
flawed_here old tape i b flaw s l above t =
    let flawed : frame_flaw old.widths (meaning_at (mean old.table) tape i) ≡ Some flaw = rw (meaning_is (mean old.table) old.widths tape i old.line s.stands) at t in
    fault_is (mean old.table) old.widths tape i l above ∙ rw flawed refl

pub flawed_steps : (old new : InHand) (tape : List ℕ) (i frame : ℕ) (lines : List Line) (flaw : Flaw) → (frame_at tape i ≡ frame → fault_at (mean old.table) old.widths tape i ≡ Some (fault_with i flaw)) → Steps old tape i frame lines (Err (fault_with i flaw)) lines new
flawed_steps old new tape i frame lines flaws.UnknownCode h = λ f. (h f, refl)
flawed_steps old new tape i frame lines flaws.NoWidth h = λ f. (h f, refl)

-- a call that was stopped by a fault
pub stopped_pushed :
    (old new : InHand) (tape : List ℕ) (i j : ℕ) (lines : List Line) (fault : ReadFault) (result : Result (Vec Line Global) ReadFault)
    → IsStopped lines fault result → (is_memory fault ≡ false → MetFault old tape i j lines fault) → new.fault ≡ Some fault → Pushed old tape i j result new
stopped_pushed old new tape i j lines fault (Ok answered) is met e = rw e (is.1, rw (← is.0) at is.2, rw (is.0) (met is.1))
stopped_pushed old new tape i j lines fault (Err f) is met e = rw is.0 (e, λ m. rw (← (is.1 m)) (met m))

steps_err : (now new : InHand) (tape : List ℕ) (i frame : ℕ) (before after : List Line) (f : ReadFault) → is_memory f ≡ false → Steps now tape i frame before (Err f) after new → frame_at tape i ≡ frame → (fault_at (mean now.table) now.widths tape i ≡ Some f) × (after ≡ before)
steps_err now new tape i frame before after (faults.UnknownCode at) m s e = s e
steps_err now new tape i frame before after (faults.NoWidth at) m s e = s e
steps_err now new tape i frame before after (faults.Unfinished at) m s e = s e
steps_err now new tape i frame before after (faults.TooLong at) m s e = s e
steps_err now new tape i frame before after faults.OutOfMemory m s e = absurd cc

-- one frame of a piece
pub step_on :
    (old now new : InHand) (tape : List ℕ) (i k : ℕ) (piece : List ℕ) (lines after : List Line) (u : Unit {0})
    → StandsAt now tape (i + k) → AreLinesBetween old tape i (i + k) lines → now.table ≡ old.table → now.widths ≡ old.widths
    → IsPiece tape i piece → k < length piece → Steps now tape (i + k) (frame_at piece k) lines (Ok u) after new
    → StandsAt new tape (i + (k + 1)) × AreLinesBetween old tape i (i + (k + 1)) after
step_on old now new tape i k piece lines after u s are table widths p l step =
    let one = step (p.frames k l) in
    let place : i + k + 1 ≡ i + (k + 1) = omega arith in
    (rw (← place) one.1, rw (← place, ← table, ← widths) (one.0 _ (rw (table, widths) are)))

-- a fault in a piece
pub fault_on :
    (old now new : InHand) (tape : List ℕ) (i k : ℕ) (piece : List ℕ) (lines after : List Line) (f : ReadFault)
    → StandsAt now tape (i + k) → AreLinesBetween old tape i (i + k) lines → now.table ≡ old.table → now.widths ≡ old.widths
    → IsPiece tape i piece → k < length piece → Steps now tape (i + k) (frame_at piece k) lines (Err f) after new → is_memory f ≡ false
    → MetFault old tape i (i + length piece) after f
fault_on old now new tape i k piece lines after f s are table widths p l step m =
    let e = steps_err now new tape (i + k) (frame_at piece k) lines after f m step (p.frames k l) in
    record {
      place = i + k;
      low = omega arith;
      high = omega arith;
      clean = rw (← table, ← widths) s.clean;
      faulty = rw (← table, ← widths) e.0;
      lines_are = rw e.1 are;
    }
