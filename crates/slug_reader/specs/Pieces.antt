-- A tape that comes in pieces: what a reader has in hand, how it stands at a position of the tape, and what its calls answer.
use Rattle.std.specs.Prelude.{◌≡◌, ◌≤◌, ◌<◌, ◌+◌, ◌++◌, ℕ, List, [], Option, Some, None, Bool, true, false, Result, Ok, Err, length, nat_le, nat_lt, if◌then◌else◌}
use Rattle.std.specs.declared.vec.Vec.{Vec}
use Rattle.std.specs.Global.{Global}
use Rattle.tape_frames.specs.Frames.{most_frames, IsTape}
use Rattle.code_table.specs.Tables.{Places, mean}
use Rattle.widths.specs.Widths.{WidthFile}
use Rattle.slug_reader.specs.declared.line.Line.{Line}
use Rattle.slug_reader.specs.declared.assembler.Assembler.{Assembler}
use Rattle.slug_reader.specs.declared.fault.ReadFault.{ReadFault}
use Rattle.slug_reader.specs.declared.fault.ReadFault.TheVariants as faults
use Rattle.slug_reader.specs.Positions.{before, first}
use Rattle.slug_reader.specs.Meanings.{Meanings, frame_at}
use Rattle.slug_reader.specs.Lines.{lines_before}
use Rattle.slug_reader.specs.Faults.{frame_fault_at, end_fault, first_fault}
use Rattle.slug_reader.specs.Assembling.{Stands}

-- a reader: by which table and widths it reads, the line that is assembled, how many frames it took, and the fault that it met
pub record InHand : Type 0 where
  pub table : Places
  pub widths : WidthFile
  pub line : Assembler
  pub taken : ℕ
  pub fault : Option ReadFault

-- what is wrong with the frame at a position: it is more than a tape has, whatever it is; its byte is no frame; or it is faulty as a frame of a tape
unfoldable pub fault_at : Meanings → WidthFile → List ℕ → ℕ → Option ReadFault
fault_at means widths tape i =
    if nat_le most_frames i then Some (faults.TooLong i) else
    if nat_lt 63 (frame_at tape i) then Some (faults.UnknownCode i) else
    frame_fault_at means widths tape i

-- the first fault of the frames before a position
unfoldable pub first_met : Meanings → WidthFile → List ℕ → ℕ → Option ReadFault
first_met means widths tape i = first (fault_at means widths tape) (before i)

-- the reader stands at a position of the tape: it took the frames before it, none of which is faulty, and has what looking back from there gives
pub record StandsAt (r : InHand) (tape : List ℕ) (i : ℕ) : Type 0 where
  pub stands : Stands (mean r.table) r.widths tape i r.line
  pub taken : r.taken ≡ i
  pub clean : first_met (mean r.table) r.widths tape i ≡ None
  pub going : r.fault ≡ None

-- the piece lies within the tape: its frames are those from the position on
pub record IsPiece (tape : List ℕ) (i : ℕ) (piece : List ℕ) : Type 0 where
  pub within : i + length piece ≤ length tape
  pub frames : (k : ℕ) → k < length piece → frame_at tape (i + k) ≡ frame_at piece k

-- the fault is want of memory
abbrev pub is_memory : ReadFault → Bool
is_memory (faults.UnknownCode at) = false
is_memory (faults.NoWidth at) = false
is_memory (faults.Unfinished at) = false
is_memory (faults.TooLong at) = false
is_memory faults.OutOfMemory = true

-- the lines with items that are cut between two positions
abbrev pub AreLinesBetween : InHand → List ℕ → ℕ → ℕ → List Line → Type 0
AreLinesBetween r tape i j lines = lines_before (mean r.table) r.widths tape j ≡ lines_before (mean r.table) r.widths tape i ++ lines

-- the frame at a place between two positions is the first faulty one, and these lines are cut before it
pub record MetFault (r : InHand) (tape : List ℕ) (i j : ℕ) (lines : List Line) (f : ReadFault) : Type 0 where
  pub place : ℕ
  pub low : i ≤ place
  pub high : place < j
  pub clean : first_met (mean r.table) r.widths tape place ≡ None
  pub faulty : fault_at (mean r.table) r.widths tape place ≡ Some f
  pub lines_are : AreLinesBetween r tape i place lines

-- the piece was taken in, or a fault was met behind a line of it, which waits for the next call
abbrev pub TookPiece : InHand → List ℕ → ℕ → ℕ → List Line → Option ReadFault → InHand → Type 0
TookPiece old tape i j lines None new = StandsAt new tape j × AreLinesBetween old tape i j lines
TookPiece old tape i j lines (Some f) new = (is_memory f ≡ false) × (1 ≤ length lines) × MetFault old tape i j lines f

-- what a call answered that was given the frames from i to j of the tape: the lines that they cut;
-- or the fault that they have, before which they cut no line, or want of memory
abbrev pub Pushed : InHand → List ℕ → ℕ → ℕ → Result (Vec Line Global) ReadFault → InHand → Type 0
Pushed old tape i j (Ok lines) new = TookPiece old tape i j lines.items new.fault new
Pushed old tape i j (Err f) new = (new.fault ≡ Some f) × (is_memory f ≡ false → MetFault old tape i j [] f)

-- whether the tape may end at i
abbrev pub Finished : InHand → List ℕ → ℕ → Result (Unit {0}) ReadFault → InHand → Type 0
Finished old tape i (Ok u) new = (end_fault (mean old.table) old.widths tape i ≡ None) × (new ≡ old)
Finished old tape i (Err f) new = (end_fault (mean old.table) old.widths tape i ≡ Some f) × (new.fault ≡ Some f)

-- to the lines before the frame at i those are added that it cuts
abbrev pub AddsLines : InHand → List ℕ → ℕ → List Line → List Line → Type 0
AddsLines r tape i before after =
    (start : List Line) → lines_before (mean r.table) r.widths tape i ≡ start ++ before
    → lines_before (mean r.table) r.widths tape (i + 1) ≡ start ++ after

-- one frame more
abbrev pub Steps : InHand → List ℕ → ℕ → ℕ → List Line → Result (Unit {0}) ReadFault → List Line → InHand → Type 0
Steps old tape i frame before (Ok u) after new =
    frame_at tape i ≡ frame
    → AddsLines old tape i before after × StandsAt new tape (i + 1)
Steps old tape i frame before (Err faults.OutOfMemory) after new = Unit {0}
Steps old tape i frame before (Err f) after new =
    frame_at tape i ≡ frame → (fault_at (mean old.table) old.widths tape i ≡ Some f) × (after ≡ before)

-- what a call answers that met a fault behind these lines
abbrev pub IsStopped : List Line → ReadFault → Result (Vec Line Global) ReadFault → Type 0
IsStopped lines fault (Ok answered) = (answered.items ≡ lines) × (is_memory fault ≡ false) × (1 ≤ length lines)
IsStopped lines fault (Err f) = (f ≡ fault) × (is_memory fault ≡ false → lines ≡ [])

-- how far a tape was read: these lines before a position, or the first fault of the tape
abbrev pub ReadTo : InHand → List ℕ → ℕ → List Line → Option ReadFault → Type 0
ReadTo r tape i lines None = StandsAt r tape i × (lines_before (mean r.table) r.widths tape i ≡ lines)
ReadTo r tape i lines (Some fault) = first_fault (mean r.table) r.widths tape ≡ Some fault

-- the same after one piece more, or the fault that is answered, unless memory ran out
abbrev pub ReadOn : InHand → List ℕ → ℕ → List Line → Result (Unit {0}) ReadFault → Type 0
ReadOn r tape i lines (Ok u) = ReadTo r tape i lines r.fault
ReadOn r tape i lines (Err fault) = is_memory fault ≡ false → first_fault (mean r.table) r.widths tape ≡ Some fault

-- a frame is taken in where the reader stands, and to these lines the one that it cuts is added
abbrev pub AddsFrame : ℕ → Result (Unit {0}) ReadFault → List Line → List Line → InHand → InHand → Type 0
AddsFrame frame result before after old new =
    (tape : List ℕ) (i : ℕ) → StandsAt old tape i → Steps old tape i frame before result after new

-- a piece is taken in where the reader stands
abbrev pub AddsPiece : List ℕ → Result (Vec Line Global) ReadFault → InHand → InHand → Type 0
AddsPiece piece result old new =
    (tape : List ℕ) (i : ℕ) → StandsAt old tape i → IsPiece tape i piece → Pushed old tape i (i + length piece) result new

-- a tape that was read as far as a piece is read on over that piece
abbrev pub ReadsPiece : List ℕ → Result (Unit {0}) ReadFault → List Line → List Line → InHand → InHand → Type 0
ReadsPiece piece result before after old new =
    (tape : List ℕ) (i : ℕ) → IsTape tape → IsPiece tape i piece → ReadTo old tape i before old.fault
    → ReadOn new tape (i + length piece) after result
