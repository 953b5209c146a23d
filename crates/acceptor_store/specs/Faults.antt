-- Why a file of the host gives no rows.
use Rattle.sqlite.specs.declared.error.Error.{Error}
use Rattle.sqlite.specs.declared.error.Error.TheVariants.{SqliteFailure}
use Rattle.sqlite.specs.declared.error.ErrorCode.TheVariants as codes
use Rattle.rows_saved.specs.declared.fault.RowsFault.{RowsFault}
use Rattle.rows_saved.specs.declared.fault.RowsFault.TheVariants.{Store, OutOfMemory}
use Rattle.acceptor_store.specs.declared.faults.FileFault.{FileFault}
use Rattle.acceptor_store.specs.declared.faults.FileFault.TheVariants as faults

-- the fault of a file that the database does not open or close, by the error that it answers; every error that is not named here is one of the disk
abbrev pub file_fault : Error → FileFault
file_fault (SqliteFailure codes.OutOfMemory) = faults.Rows OutOfMemory
file_fault (SqliteFailure codes.DatabaseBusy) = faults.InUse
file_fault (SqliteFailure codes.NotADatabase) = faults.Damaged
file_fault (SqliteFailure codes.DatabaseCorrupt) = faults.Damaged
file_fault (SqliteFailure codes.CannotOpen) = faults.Unopened
file_fault (SqliteFailure codes.DiskFull) = faults.DiskFull
file_fault _ = faults.DiskFailed

-- as a fault of rows it is that of the rows in the file, or a refused store
abbrev pub rows_fault : FileFault → RowsFault
rows_fault faults.InUse = Store
rows_fault faults.Unmade = Store
rows_fault faults.Made = Store
rows_fault faults.Damaged = Store
rows_fault faults.Unopened = Store
rows_fault faults.DiskFull = Store
rows_fault faults.DiskFailed = Store
rows_fault (faults.Rows fault) = fault

-- a fault that tables are not made for: the disk is full, or the rows are refused
abbrev pub IsOfMaking : FileFault → Type 0
IsOfMaking faults.DiskFull = Unit {0}
IsOfMaking (faults.Rows fault) = Unit {0}
IsOfMaking _ = ⊥
