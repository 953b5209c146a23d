-- A tape that is read piece by piece.
use Rattle.std.proofs.Common.{◌≡◌, ℕ, zero, suc, ◌+◌, ◌<◌, ◌≤◌, Bool, true, false, cond, List, [], ◌∷◌, ◌++◌, length, drop, Option, Some, None, refl, sym, subst, ◌∙◌, ap, arith, le-ltb, get_or, length-append}
use Rattle.std.specs.Prelude.{option_map, Result, Ok, Err}
use Rattle.std.specs.declared.vec.Vec.{Vec}
use Rattle.std.specs.Global.{Global}
use Rattle.std.proofs.lemmas.List.{get_or-drop, get_or_append_left, length-drop, drop-drop, drop_at}
use Rattle.tape_frames.specs.Frames.{IsTape, AreFrames}
use Rattle.code_table.specs.Tables.{mean}
use Rattle.widths.specs.Widths.{WidthFile}
use Rattle.slug_reader.specs.declared.line.Line.{Line}
use Rattle.slug_reader.specs.declared.fault.Flaw.{Flaw}
use Rattle.slug_reader.specs.declared.fault.Flaw.TheVariants as flaws
use Rattle.slug_reader.specs.declared.fault.ReadFault.{ReadFault}
use Rattle.slug_reader.specs.declared.fault.ReadFault.TheVariants as faults
use Rattle.slug_reader.specs.Positions.{before, first, or_else}
use Rattle.slug_reader.specs.Meanings.{Meanings, frame_at}
use Rattle.slug_reader.specs.Lines.{lines_before, items_before, is_filled}
use Rattle.slug_reader.specs.Faults.{flaw_at, fault_with, frame_fault_at, first_frame_fault, end_fault, first_fault, lines_of}
use Rattle.slug_reader.specs.Pieces.{InHand, StandsAt, fault_at, first_met, MetFault, Pushed, TookPiece, Finished, IsPiece, is_memory, ReadTo}
use Rattle.slug_reader.specs.Answers.{Reads}
use Rattle.slug_reader.proofs.Lists.{first_push, first_at}
use Rattle.slug_reader.proofs.Standing.{within}

frame_small : (tape : List ℕ) → AreFrames tape → (i : ℕ) → i < length tape → frame_at tape i ≤ 63
frame_small [] small i lt = absurd (omega (arith, lt))
frame_small (frame ∷ rest) small zero lt = omega (arith, small.0)
frame_small (frame ∷ rest) small (suc i) lt = frame_small rest small.1 i (omega (arith, lt))

-- of a tape a reader finds faulty just what is faulty
pub tape_fault : (means : Meanings) (widths : WidthFile) (tape : List ℕ) → IsTape tape → (i : ℕ) → i < length tape → fault_at means widths tape i ≡ frame_fault_at means widths tape i
unfolding fault_at
tape_fault means widths tape is i lt =
    let small = frame_small tape is.small i lt in
    rw (within i (omega (arith, lt, is.few)), le-ltb 63 (frame_at tape i) small) refl

pub tape_first : (means : Meanings) (widths : WidthFile) (tape : List ℕ) → IsTape tape → (i : ℕ) → i ≤ length tape → first_met means widths tape i ≡ first_frame_fault means widths tape i
unfolding first_met first_frame_fault
tape_first means widths tape is zero le = refl
tape_first means widths tape is (suc i) le =
    rw (first_push (fault_at means widths tape) (before i) i, first_push (frame_fault_at means widths tape) (before i) i, tape_fault means widths tape is i (omega (arith, le)), tape_first means widths tape is i (omega (arith, le))) refl

-- the fault that is met is the first of the tape
pub met_first : (r : InHand) (tape : List ℕ) → IsTape tape → (i j : ℕ) (lines : List Line) (f : ReadFault) → j ≤ length tape → MetFault r tape i j lines f → first_fault (mean r.table) r.widths tape ≡ Some f
unfolding first_fault first_frame_fault
met_first r tape is i j lines f le met =
    let lt : met.place < length tape = omega (arith, met.high, le) in
    let clean = sym (tape_first (mean r.table) r.widths tape is met.place (omega (arith, lt))) ∙ met.clean in
    let here = sym (tape_fault (mean r.table) r.widths tape is met.place lt) ∙ met.faulty in
    rw (first_at (frame_fault_at (mean r.table) r.widths tape) met.place (length tape) f clean here lt) refl

-- a tape without a faulty frame has what is wrong at its end
pub end_first : (r : InHand) (tape : List ℕ) → IsTape tape → StandsAt r tape (length tape) → first_fault (mean r.table) r.widths tape ≡ end_fault (mean r.table) r.widths tape (length tape)
unfolding first_fault
end_first r tape is s =
    let clean : first_frame_fault (mean r.table) r.widths tape (length tape) ≡ None = sym (tape_first (mean r.table) r.widths tape is (length tape) (omega arith)) ∙ s.clean in
    rw clean refl

-- what was taken in of a piece
took : (old new : InHand) (tape : List ℕ) → IsTape tape → (i j : ℕ) (lines more : List Line) → new.table ≡ old.table → new.widths ≡ old.widths → j ≤ length tape
    → lines_before (mean old.table) old.widths tape i ≡ lines → (fault : Option ReadFault) → TookPiece old tape i j more fault new → ReadTo new tape j (lines ++ more) fault
took old new tape is i j lines more table widths le so_far None h = (h.0, rw (table, widths) (h.1 ∙ rw so_far refl))
took old new tape is i j lines more table widths le so_far (Some f) h = rw (table, widths) (met_first old tape is i j more f le h.2)

-- the answer is this fault
abbrev Fails : (A : Type 0) → Result A ReadFault → ReadFault → Type 0
Fails A result f = result ≡ Err f

differ : (A : Type 0) (x : A) (f : ReadFault) → Fails A (Ok x) f → ⊥
differ A x f e = absurd cc

pub read_on : (old new : InHand) (tape : List ℕ) → IsTape tape → (i j : ℕ) (lines : List Line) (more : Vec Line Global) → new.table ≡ old.table → new.widths ≡ old.widths → j ≤ length tape
    → (waits : Option ReadFault) → old.fault ≡ waits → ReadTo old tape i lines waits
    → (StandsAt old tape i → Pushed old tape i j (Ok more) new) → ((f : ReadFault) → old.fault ≡ Some f → Fails (Vec Line Global) (Ok more) f) → ReadTo new tape j (lines ++ more.items) new.fault
read_on old new tape is i j lines more table widths le None going s pushed failed = took old new tape is i j lines more.items table widths le s.1 new.fault (pushed s.0)
read_on old new tape is i j lines more table widths le (Some f) waits s pushed failed = absurd (differ (Vec Line Global) more f (failed f waits))

pub read_stopped : (old new : InHand) (tape : List ℕ) → IsTape tape → (i j : ℕ) (lines : List Line) (f : ReadFault) → new.table ≡ old.table → new.widths ≡ old.widths → j ≤ length tape
    → (waits : Option ReadFault) → old.fault ≡ waits → ReadTo old tape i lines waits
    → (StandsAt old tape i → Pushed old tape i j (Err f) new) → ((g : ReadFault) → old.fault ≡ Some g → Fails (Vec Line Global) (Err f) g)
    → is_memory f ≡ false → first_fault (mean new.table) new.widths tape ≡ Some f
read_stopped old new tape is i j lines f table widths le None going s pushed failed memory =
    rw (table, widths) (met_first old tape is i j [] f le ((pushed s.0).1 memory))
read_stopped old new tape is i j lines f table widths le (Some g) waits s pushed failed memory =
    let same : g ≡ f = cc (failed g waits) in
    rw (table, widths, ← same) s

pub read_start : (r : InHand) (tape : List ℕ) (lines : List Line) → StandsAt r tape 0 → lines ≡ [] → ReadTo r tape 0 lines r.fault
unfolding lines_before
read_start r tape lines s none = subst (ReadTo r tape 0 lines) (sym s.going) (s, sym none)

-- where a tape was read to its end
pub finished_ok : (r new : InHand) (tape : List ℕ) → IsTape tape → (lines : List Line) → (waits : Option ReadFault) → r.fault ≡ waits → ReadTo r tape (length tape) lines waits
    → (StandsAt r tape (length tape) → Finished r tape (length tape) (Ok tt) new) → ((g : ReadFault) → r.fault ≡ Some g → Fails (Unit {0}) (Ok tt) g)
    → lines_of (mean r.table) r.widths tape ≡ Ok lines
unfolding lines_of
finished_ok r new tape is lines None going s finished failed = rw (end_first r tape is s.0, (finished s.0).0, s.1) refl
finished_ok r new tape is lines (Some g) waits s finished failed = absurd (differ (Unit {0}) tt g (failed g waits))

pub finished_err : (r new : InHand) (tape : List ℕ) → IsTape tape → (lines : List Line) (f : ReadFault) → (waits : Option ReadFault) → r.fault ≡ waits → ReadTo r tape (length tape) lines waits
    → (StandsAt r tape (length tape) → Finished r tape (length tape) (Err f) new) → ((g : ReadFault) → r.fault ≡ Some g → Fails (Unit {0}) (Err f) g)
    → first_fault (mean r.table) r.widths tape ≡ Some f
finished_err r new tape is lines f None going s finished failed = end_first r tape is s.0 ∙ (finished s.0).0
finished_err r new tape is lines f (Some g) waits s finished failed =
    let same : g ≡ f = cc (failed g waits) in
    rw (← same) s

-- no fault of a tape is that it is too long
abbrev is_long : Option ReadFault → Bool
is_long None = false
is_long (Some (faults.UnknownCode at)) = false
is_long (Some (faults.NoWidth at)) = false
is_long (Some (faults.Unfinished at)) = false
is_long (Some (faults.TooLong at)) = true
is_long (Some faults.OutOfMemory) = false

flaw_short : (i : ℕ) (flaw : Option Flaw) → is_long (option_map (fault_with i) flaw) ≡ false
flaw_short i None = refl
flaw_short i (Some flaws.UnknownCode) = refl
flaw_short i (Some flaws.NoWidth) = refl

else_short : (x y : Option ReadFault) → is_long x ≡ false → is_long y ≡ false → is_long (or_else x y) ≡ false
else_short None y hx hy = hy
else_short (Some f) y hx hy = hx

frames_short : (means : Meanings) (widths : WidthFile) (tape : List ℕ) (n : ℕ) → is_long (first (frame_fault_at means widths tape) (before n)) ≡ false
unfolding frame_fault_at
frames_short means widths tape zero = refl
frames_short means widths tape (suc n) =
    rw (first_push (frame_fault_at means widths tape) (before n) n)
    (else_short (first (frame_fault_at means widths tape) (before n)) (frame_fault_at means widths tape n) (frames_short means widths tape n) (flaw_short n (flaw_at means widths tape n)))

end_short : (at : ℕ) (b : Bool) → is_long (cond b (Some (faults.Unfinished at)) None) ≡ false
end_short at true = refl
end_short at false = refl

tape_short : (means : Meanings) (widths : WidthFile) (tape : List ℕ) → is_long (first_fault means widths tape) ≡ false
unfolding first_fault first_frame_fault
tape_short means widths tape =
    else_short (first (frame_fault_at means widths tape) (before (length tape))) (end_fault means widths tape (length tape)) (frames_short means widths tape (length tape)) (end_short (length tape) (is_filled (items_before means widths tape (length tape))))

frame_not_long : (means : Meanings) (widths : WidthFile) (tape : List ℕ) (at : ℕ) → first_fault means widths tape ≡ Some (faults.TooLong at) → ⊥
frame_not_long means widths tape at e =
    let both : true ≡ false = sym (ap is_long e) ∙ tape_short means widths tape in
    absurd cc

pub reads_err : (means : Meanings) (widths : WidthFile) (tape : List ℕ) (f : ReadFault) → (is_memory f ≡ false → first_fault means widths tape ≡ Some f) → Reads (Err f) (lines_of means widths tape)
unfolding lines_of
reads_err means widths tape (faults.UnknownCode at) h = rw (h refl) refl
reads_err means widths tape (faults.NoWidth at) h = rw (h refl) refl
reads_err means widths tape (faults.Unfinished at) h = rw (h refl) refl
reads_err means widths tape (faults.TooLong at) h = frame_not_long means widths tape at (h refl)
reads_err means widths tape faults.OutOfMemory h = tt

-- a piece that comes off the front of what is left of a tape
pub piece_is : (tape : List ℕ) (i : ℕ) (piece rest : List ℕ) → i ≤ length tape → drop i tape ≡ piece ++ rest → IsPiece tape i piece
piece_is tape i piece rest le e =
    let sizes : length (drop i tape) ≡ length piece + length rest = ap length e ∙ length-append piece rest in
    record {
      within = omega (arith, sizes, length-drop i tape, le);
      frames = λ k lt. sym (get_or-drop i tape k 0) ∙ ap (λ xs. get_or xs k 0) e ∙ get_or_append_left piece rest 0 k lt;
    }

pub rest_left : (tape : List ℕ) (i : ℕ) (piece rest : List ℕ) → drop i tape ≡ piece ++ rest → drop (i + length piece) tape ≡ rest
rest_left tape i piece rest e = sym (drop-drop (length piece) i tape) ∙ ap (drop (length piece)) e ∙ drop_at piece rest (length piece) refl

pub at_end : (tape : List ℕ) (i : ℕ) (rest : List ℕ) → i ≤ length tape → drop i tape ≡ rest → length rest ≡ 0 → i ≡ length tape
at_end tape i rest le e none =
    let size = ap length e in
    omega (arith, le, size, none, length-drop i tape)
