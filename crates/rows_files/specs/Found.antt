-- What stands at the path of a row file, and what stands against making one there or opening it.
use Rattle.std.specs.Prelude.{◌≡◌, ℕ, ◌+◌, ◌*◌, ◌==◌, ◌&&◌, not, List, ◌∷◌, [], ◌++◌, Bool, if◌then◌else◌, Option, Some, None, length, slice_index, nat_eq, nat_le, codes}
use Rattle.std.specs.List.{starts_with}
use Rattle.rows_files.specs.declared.causes.RowsCause.{RowsCause}
use Rattle.rows_files.specs.declared.causes.RowsCause.TheVariants.{Missing, LogAlone, WithoutLog, OtherLog, Unmade, Made, Damaged}
use Rattle.rows_files.specs.declared.found.Mark.{Mark}
use Rattle.rows_files.specs.declared.found.Mark.TheVariants as marks
use Rattle.rows_files.specs.declared.found.FoundFile.{FoundFile}
use Rattle.rows_files.specs.declared.found.FoundFile.TheVariants as files
use Rattle.rows_files.specs.declared.found.FoundLog.{FoundLog}
use Rattle.rows_files.specs.declared.found.FoundLog.TheVariants as logs

-- what every database begins with (SQLite's file format, 1.3)
abbrev pub magic : List ℕ
magic = codes "SQLite format 3" ++ 0 ∷ []

-- it begins as a database does, and is no shorter than a database's header with the head of its first page
abbrev pub has_header : List ℕ → Bool
has_header head = nat_le 108 (length head) && starts_with nat_eq head magic

-- the first page lists no table: it is a leaf, with no cell (SQLite's file format, 1.6)
abbrev pub lists_nothing : List ℕ → Bool
lists_nothing head = slice_index head 100 == 13 && (slice_index head 103 == 0 && slice_index head 104 == 0)

-- each page keeps some bytes for a sum over it
abbrev pub keeps_sums : List ℕ → Bool
keeps_sums head = not (slice_index head 20 == 0)

-- the number of the file's last life, which its log has too
abbrev pub life_number : List ℕ → ℕ
life_number head = slice_index head 61 * 0x1_0000 + slice_index head 62 * 0x100 + slice_index head 63

-- what the first byte of the mark says
abbrev pub mark_in : ℕ → ℕ → Mark
mark_in first number = if first == 0xc1 then marks.InUse number else (if first == 0xc0 then marks.AtRest else marks.Unmarked)

-- what the header says of the log: in four bytes, the user version of SQLite's file format (1.3)
abbrev pub mark_of : List ℕ → Mark
mark_of head = if keeps_sums head then marks.Unmarkable else mark_in (slice_index head 60) (life_number head)

-- what a file is that begins with these bytes
abbrev pub file_of : List ℕ → FoundFile
file_of head = if has_header head then (if lists_nothing head then files.Bare else files.Database (mark_of head)) else files.Foreign

-- the log has no byte
abbrev pub HoldsNoByte : FoundLog → Type 0
HoldsNoByte logs.Nothing = Unit {0}
HoldsNoByte logs.Empty = Unit {0}
HoldsNoByte (logs.Blank own) = ⊥
HoldsNoByte (logs.Filled own) = ⊥

-- the log holds no frame: all that was saved is in the file
abbrev pub HoldsNoFrame : FoundLog → Type 0
HoldsNoFrame logs.Nothing = Unit {0}
HoldsNoFrame logs.Empty = Unit {0}
HoldsNoFrame (logs.Blank own) = Unit {0}
HoldsNoFrame (logs.Filled own) = ⊥

-- the log has this number
abbrev pub HasNumber : ℕ → FoundLog → Type 0
HasNumber number logs.Nothing = ⊥
HasNumber number logs.Empty = ⊥
HasNumber number (logs.Blank own) = own ≡ Some number
HasNumber number (logs.Filled own) = own ≡ Some number

-- a file of this mark was at rest, or has the log of its life; one without a mark may have any
abbrev pub IsPair : Mark → FoundLog → Type 0
IsPair marks.Unmarked log = Unit {0}
IsPair marks.Unmarkable log = Unit {0}
IsPair marks.AtRest log = HoldsNoFrame log
IsPair (marks.InUse number) log = HasNumber number log

-- a database, and a pair with its log; one that lists no table has a log that may hold them
abbrev pub MayBeOpened : FoundFile → FoundLog → Type 0
MayBeOpened files.Nothing log = ⊥
MayBeOpened files.Foreign log = ⊥
MayBeOpened files.Bare log = HoldsNoFrame log → ⊥
MayBeOpened (files.Database mark) log = IsPair mark log

-- a log that has bytes, where there is no other file
abbrev pub unless_bytes : FoundLog → Option RowsCause → Option RowsCause
unless_bytes logs.Nothing otherwise = otherwise
unless_bytes logs.Empty otherwise = otherwise
unless_bytes (logs.Blank own) otherwise = Some LogAlone
unless_bytes (logs.Filled own) otherwise = Some LogAlone

-- why no row file is made here: rows may stand here, or something else does
abbrev pub making_refusal : FoundFile → FoundLog → Option RowsCause
making_refusal files.Nothing log = unless_bytes log None
making_refusal files.Foreign log = Some Damaged
making_refusal files.Bare logs.Nothing = Some Unmade
making_refusal files.Bare logs.Empty = Some Unmade
making_refusal files.Bare (logs.Blank own) = Some Made
making_refusal files.Bare (logs.Filled own) = Some Made
making_refusal (files.Database mark) log = Some Made

-- a log of another number than this
abbrev pub other_log : ℕ → Option ℕ → Option RowsCause
other_log number None = Some OtherLog
other_log number (Some own) = if own == number then None else Some OtherLog

-- why a file of this mark and the log beside it are no pair
abbrev pub parting : Mark → FoundLog → Option RowsCause
parting marks.Unmarked log = None
parting marks.Unmarkable log = None
parting marks.AtRest logs.Nothing = None
parting marks.AtRest logs.Empty = None
parting marks.AtRest (logs.Blank own) = None
parting marks.AtRest (logs.Filled own) = Some OtherLog
parting (marks.InUse number) logs.Nothing = Some WithoutLog
parting (marks.InUse number) logs.Empty = Some WithoutLog
parting (marks.InUse number) (logs.Blank own) = other_log number own
parting (marks.InUse number) (logs.Filled own) = other_log number own

-- why the file that stands here is not opened: it is none, or its rows would have to stand in a log that is not here
abbrev pub opening_refusal : FoundFile → FoundLog → Option RowsCause
opening_refusal files.Nothing log = unless_bytes log (Some Missing)
opening_refusal files.Foreign log = Some Damaged
opening_refusal files.Bare logs.Nothing = Some Unmade
opening_refusal files.Bare logs.Empty = Some Unmade
opening_refusal files.Bare (logs.Blank own) = Some Unmade
opening_refusal files.Bare (logs.Filled own) = None
opening_refusal (files.Database mark) log = parting mark log
