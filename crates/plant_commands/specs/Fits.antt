-- Whether a code table can end a line, and whether its matrices fit the measure of a width file.
use Rattle.std.specs.Prelude.{◌≡◌, ℕ, ◌<◌, Bool, true, false, Option, Some, None, ◌||◌, nat_le}
use Rattle.code_table.specs.declared.case.Case.{Case}
use Rattle.code_table.specs.declared.case.Case.TheVariants.{Unshift, Shift}
use Rattle.code_table.specs.declared.meaning.Meaning.{Meaning}
use Rattle.code_table.specs.declared.meaning.Meaning.TheVariants as meanings
use Rattle.widths.specs.Widths.{WidthFile, width_of}

-- what each frame means in each case
abbrev pub Means : Type 0
Means = Case → ℕ → Option Meaning

-- the line is sent to be cast
unfoldable pub is_elevate : Option Meaning → Bool
is_elevate (Some meanings.Elevate) = true
is_elevate _ = false

-- a width that is no greater than the measure
abbrev pub is_within : ℕ → Option ℕ → Bool
is_within measure None = false
is_within measure (Some width) = nat_le width measure

-- a matrix that is no wider than the measure
abbrev pub is_fitting : WidthFile → Option Meaning → Bool
is_fitting widths (Some (meanings.Matrix name)) = is_within widths.measure (width_of widths name)
is_fitting widths _ = false

-- a frame ends a line in either case
abbrev pub elevates : Means → ℕ → Bool
elevates means frame = is_elevate (means Unshift frame) || is_elevate (means Shift frame)

-- a frame is a matrix in either case that is no wider than the measure
abbrev pub fits : Means → WidthFile → ℕ → Bool
fits means widths frame = is_fitting widths (means Unshift frame) || is_fitting widths (means Shift frame)

-- no frame ends a line
abbrev pub EndsNoLine : Means → Type 0
EndsNoLine means = (frame : ℕ) → frame < 64 → elevates means frame ≡ false

-- no frame is a matrix that fits
abbrev pub FitsNothing : Means → WidthFile → Type 0
FitsNothing means widths = (frame : ℕ) → frame < 64 → fits means widths frame ≡ false
