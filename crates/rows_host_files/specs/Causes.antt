-- Why a host's file of saved rows is refused.
use Rattle.std.specs.Prelude.{◌≡◌}
use Rattle.sqlite_std_file.specs.declared.pair.OpenError.{OpenError}
use Rattle.sqlite_std_file.specs.declared.pair.OpenError.TheVariants as opening
use Rattle.rows_saved.specs.declared.fault.RowsFault.{RowsFault}
use Rattle.rows_saved.specs.declared.fault.RowsFault.TheVariants.{Store, OutOfMemory}
use Rattle.rows_files.specs.declared.causes.RefusedRows.{RefusedRows}
use Rattle.rows_files.specs.Causes.{refused_by, refused_for}
use Rattle.rows_files.specs.declared.causes.RowsCause.TheVariants.{InUse, Unmade, Made, Unread, Damaged, Unopened, DiskFull, DiskFailed}
use Rattle.acceptor_store.specs.declared.faults.FileFault.{FileFault}
use Rattle.acceptor_store.specs.declared.faults.FileFault.TheVariants as faults

-- the fault of the rows in a file tells all, unless their tables are not read
abbrev pub refusal_by : RowsFault → RefusedRows
refusal_by Store = refused_for Unread
refusal_by fault = refused_by fault

-- how rows are refused whose file has this fault: each has its own cause
abbrev pub refusal_of : FileFault → RefusedRows
refusal_of faults.InUse = refused_for InUse
refusal_of faults.Unmade = refused_for Unmade
refusal_of faults.Made = refused_for Made
refusal_of faults.Damaged = refused_for Damaged
refusal_of faults.Unopened = refused_for Unopened
refusal_of faults.DiskFull = refused_for DiskFull
refusal_of faults.DiskFailed = refused_for DiskFailed
refusal_of (faults.Rows fault) = refusal_by fault

-- how rows are refused whose files the host does not open; what its other errors come to is told where they are read
abbrev pub IsNotOpened : OpenError → RefusedRows → Type 0
IsNotOpened (opening.Io error) refused = Unit {0}
IsNotOpened opening.OutOfMemory refused = refused ≡ refused_by OutOfMemory
IsNotOpened opening.Busy refused = refused ≡ refused_for InUse
IsNotOpened opening.HotJournal refused = refused ≡ refused_for Unopened
