-- The words for what is the matter with a file of saved rows, and how a person is told of it.
use Rattle.std.specs.Prelude.{◌≡◌, ℕ, List, Option, Some, None, option_map, codes}
use Rattle.std.specs.declared.io.ErrorKind.{ErrorKind}
use Rattle.std.specs.declared.io.ErrorKind.TheVariants as kinds
use Rattle.rows_saved.specs.declared.fault.RowsFault.{RowsFault}
use Rattle.rows_saved.specs.declared.fault.RowsFault.TheVariants as rows
use Rattle.command_ends.specs.Ends.{end_of, end_of_rows, IsOfRows}
use Rattle.command_ends.specs.declared.fault.Fault.{Fault}
use Rattle.command_ends.specs.declared.fault.Fault.TheVariants as faults
use Rattle.rows_files.specs.declared.causes.RowsCause.{RowsCause}
use Rattle.rows_files.specs.declared.causes.RowsCause.TheVariants as causes
use Rattle.rows_files.specs.declared.causes.RefusedRows.{RefusedRows}

-- the line that an operator reads
abbrev pub cause_text : RowsCause → List ℕ
cause_text causes.Missing = codes "no such file: look for it and its log; only a station that never ran is made, by circuitd create"
cause_text causes.LogAlone = codes "its log is here and the file is not: find the file, and put the two together"
cause_text causes.WithoutLog = codes "its log is missing: find it, and put the two together"
cause_text causes.OtherLog = codes "its log is of another time: find the one that lay beside it, and put the two together"
cause_text causes.BeingMade = codes "another process is making it"
cause_text causes.InUse = codes "another process has it open"
cause_text causes.Unmade = codes "no station is in it: find its log, and put the two together; if the station never ran, move it away"
cause_text causes.Made = codes "it was made already: start without --create"
cause_text causes.Unread = codes "its tables are not those of saved rows, or can't be read"
cause_text causes.Damaged = codes "it is no database, or damaged, or without its log"
cause_text causes.Unopened = codes "it can't be opened"
cause_text causes.DiskFull = codes "the disk is full"
cause_text causes.DiskFailed = codes "the disk failed"
cause_text causes.Replaced = codes "another file stands at its path, or none: what it held is kept there with .kept behind its name"
cause_text causes.Unkept = codes "another file stands at its path, or none, and what it held could not be kept: find the file that was here and its log, or the station is lost"
cause_text causes.Lost = codes "its folder is gone: the station is lost"
cause_text causes.Kept = codes "what a station saved here last is kept with .kept behind its name: put that and its log in place of these"
cause_text causes.HalfKept = codes "what a station saved here last was not kept whole: find the file that was here and its log, or the station is lost"

-- a refusal whose fault tells all
abbrev pub refused_by : RowsFault → RefusedRows
refused_by fault = record { fault = fault; cause = None }

-- a store that refused, for this cause
abbrev pub refused_for : RowsCause → RefusedRows
refused_for cause = record { fault = rows.Store; cause = Some cause }

-- what the host answers of a file refuses its rows so: memory is out, the disk is full, or else the file can't be opened
pub record IsHostRefusal (answer : ErrorKind) (refused : RefusedRows) : Type 0 where
  pub memory : answer ≡ kinds.OutOfMemory → refused ≡ refused_by rows.OutOfMemory
  pub full : answer ≡ kinds.StorageFull → refused ≡ refused_for causes.DiskFull
  pub other : ¬ (answer ≡ kinds.OutOfMemory) → ¬ (answer ≡ kinds.StorageFull) → refused ≡ refused_for causes.Unopened

-- a person is told this fault of rows, and on the line below it this cause, if there is one
abbrev pub Tells : Fault → RowsFault → Option RowsCause → Type 0
Tells faults.OutOfMemory fault cause = fault ≡ rows.OutOfMemory
Tells (faults.Rows told) fault cause = (told ≡ fault) × (cause ≡ None)
Tells (faults.RowsFile told line) fault cause = (told ≡ fault) × (option_map cause_text cause ≡ Some line.now)
Tells _ fault cause = ⊥

-- rows that are refused are told so: their fault with its own cause, if it has one. Out of memory is told as by any command
pub record AreTold (refused : RefusedRows) (told : Fault) : Type 0 where
  pub cause : Tells told refused.fault refused.cause
  pub end : end_of told ≡ end_of_rows refused.fault
  pub rows : IsOfRows (end_of told)
