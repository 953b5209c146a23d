-- What a code table is, and what its frames mean.
use Rattle.std.specs.Prelude.{◌≡◌, ℕ, List, Bool, Option, Some, None, is_some, slice_get, option_map}
use Rattle.std.specs.Option.{option_flatten}
use Rattle.code_table.specs.declared.case.Case.{Case}
use Rattle.code_table.specs.declared.case.Case.TheVariants.{Unshift, Shift}
use Rattle.code_table.specs.declared.meaning.Meaning.{Meaning}
use Rattle.code_table.specs.declared.meaning.Meaning.TheVariants as meanings
use Rattle.code_table.specs.declared.entry.FrameMeanings.{FrameMeanings}

-- the 64 places of a table: at each frame its entry, where it has one
abbrev pub Places : Type 0
Places = List (Option FrameMeanings)

-- the entry of a frame, where the table has one
abbrev pub entry_of : Places → ℕ → Option FrameMeanings
entry_of table frame = option_flatten (slice_get table frame)

-- there is an entry of this frame
abbrev pub is_placed : Places → ℕ → Bool
is_placed table frame = is_some (entry_of table frame)

-- what an entry has in the column of a case
abbrev pub in_column : Case → FrameMeanings → Meaning
in_column Unshift entry = entry.unshift
in_column Shift entry = entry.shift

-- what a frame means in a case: its entry in that column of the table, or nothing
unfoldable pub mean : Places → Case → ℕ → Option Meaning
mean table case frame = option_map (in_column case) (entry_of table frame)

-- the case that a case code selects for the frames after it
abbrev pub case_of : Option Meaning → Option Case
case_of (Some meanings.Shift) = Some Shift
case_of (Some meanings.Unshift) = Some Unshift
case_of _ = None

-- a case code means the same in both columns: a frame selects the same case whichever case holds
abbrev pub AreAlike : Places → Type 0
AreAlike table = (case : Case) (frame : ℕ) → case_of (mean table case frame) ≡ case_of (mean table Unshift frame)
