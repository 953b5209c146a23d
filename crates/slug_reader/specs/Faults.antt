-- The first fault of a tape that is read, and what reading gives.
use Rattle.std.specs.Prelude.{◌≡◌, ℕ, List, Option, Some, None, Result, Ok, Err, length, is_some, option_map, if◌then◌else◌}
use Rattle.code_table.specs.declared.meaning.Meaning.{Meaning}
use Rattle.code_table.specs.declared.meaning.Meaning.TheVariants as meanings
use Rattle.widths.specs.Widths.{WidthFile, width_of}
use Rattle.slug_reader.specs.declared.fault.Flaw.{Flaw}
use Rattle.slug_reader.specs.declared.fault.Flaw.TheVariants as flaws
use Rattle.slug_reader.specs.declared.fault.ReadFault.{ReadFault}
use Rattle.slug_reader.specs.declared.fault.ReadFault.TheVariants as faults
use Rattle.slug_reader.specs.declared.item.Item.{Item}
use Rattle.slug_reader.specs.declared.item.Rail.{Rail}
use Rattle.slug_reader.specs.declared.line.Line.{Line}
use Rattle.slug_reader.specs.Positions.{before, first, or_else}
use Rattle.slug_reader.specs.Meanings.{Meanings, item_of, meaning_at}
use Rattle.slug_reader.specs.Lines.{items_before, is_filled, lines_before}

-- a frame is faulty where it means nothing, and where it means a matrix that has no width
abbrev pub frame_flaw : WidthFile → Option Meaning → Option Flaw
frame_flaw widths None = Some flaws.UnknownCode
frame_flaw widths (Some (meanings.Matrix name)) = if is_some (width_of widths name) then None else Some flaws.NoWidth
frame_flaw widths (Some _) = None

-- a frame gives what goes into the line, if anything, or tells what is wrong with it
abbrev pub IsItemOrFlaw : WidthFile → Rail → Option Meaning → Result (Option Item) Flaw → Type 0
IsItemOrFlaw widths rail m (Ok item) = (frame_flaw widths m ≡ None) × (item ≡ item_of widths rail m)
IsItemOrFlaw widths rail m (Err flaw) = frame_flaw widths m ≡ Some flaw

-- what is wrong with the frame at a position
unfoldable pub flaw_at : Meanings → WidthFile → List ℕ → ℕ → Option Flaw
flaw_at means widths tape i = frame_flaw widths (meaning_at means tape i)

-- what is wrong with a frame, as the fault that reading answers
abbrev pub fault_with : ℕ → Flaw → ReadFault
fault_with at flaws.UnknownCode = faults.UnknownCode at
fault_with at flaws.NoWidth = faults.NoWidth at

-- the fault of the frame at a position
unfoldable pub frame_fault_at : Meanings → WidthFile → List ℕ → ℕ → Option ReadFault
frame_fault_at means widths tape i = option_map (fault_with i) (flaw_at means widths tape i)

-- the first fault of the frames before a position
unfoldable pub first_frame_fault : Meanings → WidthFile → List ℕ → ℕ → Option ReadFault
first_frame_fault means widths tape i = first (frame_fault_at means widths tape) (before i)

-- a tape may not end at a position where there are items after the last cut
abbrev pub end_fault : Meanings → WidthFile → List ℕ → ℕ → Option ReadFault
end_fault means widths tape i = if is_filled (items_before means widths tape i) then Some (faults.Unfinished i) else None

-- the first fault of a tape: that of its first faulty frame, else that of its end
unfoldable pub first_fault : Meanings → WidthFile → List ℕ → Option ReadFault
first_fault means widths tape = or_else (first_frame_fault means widths tape (length tape)) (end_fault means widths tape (length tape))

-- the lines, or the fault where there is one
abbrev pub unless_faulty : Option ReadFault → List Line → Result (List Line) ReadFault
unless_faulty None lines = Ok lines
unless_faulty (Some fault) lines = Err fault

-- the lines with items of a tape, in order, or its first fault
unfoldable pub lines_of : Meanings → WidthFile → List ℕ → Result (List Line) ReadFault
lines_of means widths tape = unless_faulty (first_fault means widths tape) (lines_before means widths tape (length tape))
