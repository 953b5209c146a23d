-- How files of rows answer, and what a command tells of rows that were refused.
use Rattle.std.specs.Prelude.{◌≡◌, ◌⊎◌, Result, IfOk, IfErr}
use Rattle.rows_saved.specs.declared.fault.RowsFault.TheVariants as rows
use Rattle.command_ends.specs.Ends.{end_of}
use Rattle.command_ends.specs.declared.end.End.TheVariants.{Store}
use Rattle.command_ends.specs.declared.fault.Fault.{Fault}
use Rattle.command_ends.specs.declared.fault.Fault.TheVariants as faults
use Rattle.rows_files.specs.Causes.{AreTold}
use Rattle.rows_files.specs.declared.causes.RefusedRows.{RefusedRows}

-- what was asked of the files was done, and this holds of what they gave; or rows were refused so
pub record IsDoneOrRefused {A : Type 0} (IsSo : RefusedRows → Type 0) (result : Result A RefusedRows) (Done : A → Type 0) : Type 0 where
  pub done : IfOk result Done
  pub refused : IfErr result IsSo

-- rows were refused so, and that is what is told
pub record TellsRefused (IsSo : RefusedRows → Type 0) (fault : Fault) : Type 0 where
  pub refused : RefusedRows
  pub so : IsSo refused
  pub told : AreTold refused fault

-- where a command ends as one whose rows are refused, rows were refused so, and that is what is told
abbrev pub KeepsCause : (RefusedRows → Type 0) → Fault → Type 0
KeepsCause IsSo fault = end_of fault ≡ Store → TellsRefused IsSo fault

-- a save was refused for no cause that was known, and it is told how the rows are refused by now
pub record TellsWhy (IsSo : RefusedRows → Type 0) (fault told : Fault) : Type 0 where
  pub was : fault ≡ faults.Rows rows.Store
  pub why : TellsRefused IsSo told

-- a fault is told as it was, or why a save was refused; it ends a command as it did
pub record IsToldStill (IsSo : RefusedRows → Type 0) (fault told : Fault) : Type 0 where
  pub text : (told ≡ fault) ⊎ TellsWhy IsSo fault told
  pub end : end_of told ≡ end_of fault
