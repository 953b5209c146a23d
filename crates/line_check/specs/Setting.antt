-- How far a tape was set, and why it does not set.
use Rattle.std.specs.Prelude.{◌≡◌, ℕ, List, ◌++◌, Bool, true, false, Option, Some, None}
use Rattle.code_table.specs.Tables.{mean}
use Rattle.widths.specs.Widths.{WidthFile}
use Rattle.slug_reader.specs.declared.line.Line.{Line}
use Rattle.slug_reader.specs.declared.fault.ReadFault.{ReadFault}
use Rattle.slug_reader.specs.declared.fault.ReadFault.TheVariants as faults
use Rattle.slug_reader.specs.Meanings.{Meanings}
use Rattle.slug_reader.specs.Lines.{lines_before}
use Rattle.slug_reader.specs.Pieces.{InHand, StandsAt}
use Rattle.line_check.specs.declared.slug.Slug.{Slug}
use Rattle.line_check.specs.declared.fault.Cause.{Cause}
use Rattle.line_check.specs.declared.fault.Cause.TheVariants as causes
use Rattle.line_check.specs.declared.fault.LineFault.{LineFault}
use Rattle.line_check.specs.declared.fault.LineFault.TheVariants as line_faults
use Rattle.line_check.specs.declared.tape.Unset.{Unset}
use Rattle.line_check.specs.declared.tape.Unset.TheVariants as unset
use Rattle.line_check.specs.Slugs.{AreSlugs}
use Rattle.line_check.specs.Sets.{fault_at, first_fault}
use Rattle.line_check.specs.Spreading.{misfit_among}

-- why the line that is cut at a position has no slug
abbrev pub unset_line : ℕ → LineFault → Unset
unset_line at (line_faults.Overset over) = unset.Faulty at (causes.Overset over)
unset_line at (line_faults.Loose under) = unset.Faulty at (causes.Loose under)
unset_line at line_faults.OutOfMemory = unset.OutOfMemory

-- the fault is that there are too many frames
abbrev pub is_too_long : ReadFault → Bool
is_too_long (faults.UnknownCode at) = false
is_too_long (faults.NoWidth at) = false
is_too_long (faults.Unfinished at) = false
is_too_long (faults.TooLong at) = true
is_too_long faults.OutOfMemory = false

-- why a tape that cannot be read has no slugs
abbrev pub IsUnsetBy : ReadFault → Unset → Type 0
IsUnsetBy (faults.UnknownCode at) why = why ≡ unset.Faulty at causes.UnknownCode
IsUnsetBy (faults.NoWidth at) why = why ≡ unset.Faulty at causes.NoWidth
IsUnsetBy (faults.Unfinished at) why = why ≡ unset.Faulty at causes.Unfinished
IsUnsetBy (faults.TooLong at) why = ⊥
IsUnsetBy faults.OutOfMemory why = why ≡ unset.OutOfMemory

-- what was answered is the first of these lines that does not fit, or memory ran out
abbrev pub IsFirstMisfit : Option (ℕ × Cause) → Unset → Type 0
IsFirstMisfit found (unset.Faulty at cause) = found ≡ Some (at, cause)
IsFirstMisfit found unset.OutOfMemory = Unit {0}

-- what was answered is the first fault of a tape, or memory ran out
abbrev pub IsFirstFault : Meanings → WidthFile → List ℕ → Unset → Type 0
IsFirstFault means widths tape (unset.Faulty at cause) = first_fault means widths tape ≡ Some (fault_at means tape at cause)
IsFirstFault means widths tape unset.OutOfMemory = Unit {0}

-- the slugs of these lines were added
abbrev pub AddsSlugs : WidthFile → List Line → List Slug → List Slug → Type 0
AddsSlugs widths lines old new = (earlier : List Line) → AreSlugs widths earlier old → AreSlugs widths (earlier ++ lines) new

-- a fault that reading answers is the first that keeps a tape from being set
abbrev pub Tells : Meanings → WidthFile → List ℕ → ReadFault → Type 0
Tells means widths tape (faults.UnknownCode at) = first_fault means widths tape ≡ Some (fault_at means tape at causes.UnknownCode)
Tells means widths tape (faults.NoWidth at) = first_fault means widths tape ≡ Some (fault_at means tape at causes.NoWidth)
Tells means widths tape (faults.Unfinished at) = first_fault means widths tape ≡ Some (fault_at means tape at causes.Unfinished)
Tells means widths tape (faults.TooLong at) = ⊥
Tells means widths tape faults.OutOfMemory = Unit {0}

-- how far a tape was set: to a position, with the slugs of the lines before it, or to the fault that waits
abbrev pub SetTo : InHand → List ℕ → ℕ → List Slug → Option ReadFault → Type 0
SetTo r tape i slugs None =
    StandsAt r tape i
    × (misfit_among r.widths (lines_before (mean r.table) r.widths tape i) ≡ None)
    × AreSlugs r.widths (lines_before (mean r.table) r.widths tape i) slugs
SetTo r tape i slugs (Some fault) = Tells (mean r.table) r.widths tape fault
