-- What a tape gives when it is set: its slugs, or the fault at its first faulty position.
use Rattle.std.specs.Prelude.{◌≡◌, ℕ, List, Option, Some, None, Result, Ok, Err, length, option_map, if◌then◌else◌}
use Rattle.widths.specs.Widths.{WidthFile}
use Rattle.slug_reader.specs.declared.fault.Flaw.{Flaw}
use Rattle.slug_reader.specs.declared.fault.Flaw.TheVariants as flaws
use Rattle.slug_reader.specs.Positions.{before, or_else, first}
use Rattle.slug_reader.specs.Meanings.{Meanings}
use Rattle.slug_reader.specs.Lines.{is_cast, is_filled, items_before, line_of, line_number, lines_before}
use Rattle.slug_reader.specs.Faults.{flaw_at}
use Rattle.line_check.specs.declared.slug.Slug.{Slug}
use Rattle.line_check.specs.declared.fault.Cause.{Cause}
use Rattle.line_check.specs.declared.fault.Cause.TheVariants as causes
use Rattle.line_check.specs.declared.fault.SetFault.{SetFault}
use Rattle.line_check.specs.declared.fault.SetError.{SetError}
use Rattle.line_check.specs.declared.fault.SetError.TheVariants as errors
use Rattle.line_check.specs.Slugs.{misfit, AreSlugs}

-- what is wrong with a frame that cannot be read
abbrev pub cause_of : Flaw → Cause
cause_of flaws.UnknownCode = causes.UnknownCode
cause_of flaws.NoWidth = causes.NoWidth

-- why the line that is cut at a position has no slug
abbrev pub misfit_at : Meanings → WidthFile → List ℕ → ℕ → Option Cause
misfit_at means widths tape i = if is_cast means widths tape i then misfit widths (line_of means widths tape i) else None

-- what is wrong with the frame at a position: it cannot be read, or cuts a line with items that has no slug
abbrev pub cause_at : Meanings → WidthFile → List ℕ → ℕ → Option Cause
cause_at means widths tape i = or_else (option_map cause_of (flaw_at means widths tape i)) (misfit_at means widths tape i)

-- a cause at a position, with the number of its line
abbrev pub fault_at : Meanings → List ℕ → ℕ → Cause → SetFault
fault_at means tape i cause = record { at = i; line = line_number means tape i; cause = cause }

-- the fault of the frame at a position, if it is faulty
unfoldable pub set_fault_at : Meanings → WidthFile → List ℕ → ℕ → Option SetFault
set_fault_at means widths tape i = option_map (fault_at means tape i) (cause_at means widths tape i)

-- the first fault of the frames before a position
unfoldable pub first_fault_before : Meanings → WidthFile → List ℕ → ℕ → Option SetFault
first_fault_before means widths tape i = first (set_fault_at means widths tape) (before i)

-- what is wrong with the end of a tape: there are items after the last cut
abbrev pub end_fault : Meanings → WidthFile → List ℕ → Option SetFault
end_fault means widths tape =
    if is_filled (items_before means widths tape (length tape)) then Some (fault_at means tape (length tape) causes.Unfinished) else None

-- the first fault of a tape: that of its first faulty frame, else that of its end
unfoldable pub first_fault : Meanings → WidthFile → List ℕ → Option SetFault
first_fault means widths tape = or_else (first_fault_before means widths tape (length tape)) (end_fault means widths tape)

-- what a tape gives: the slugs of all its lines with items, in order, or the fault at its first faulty position
abbrev pub Sets : Meanings → WidthFile → List ℕ → Result (List Slug) SetFault → Type 0
Sets means widths tape (Ok slugs) = (first_fault means widths tape ≡ None) × AreSlugs widths (lines_before means widths tape (length tape)) slugs
Sets means widths tape (Err fault) = first_fault means widths tape ≡ Some fault

-- of a fault, not of want of memory
abbrev pub IfFault : SetError → (SetFault → Type 0) → Type 0
IfFault (errors.Fault fault) P = P fault
IfFault errors.OutOfMemory P = Unit {0}
