-- How a command ends by a fault.
use Rattle.std.specs.Prelude.{◌≡◌, ◌⊎◌, Bool, true, false, Result, OnOk, IfOk, IfErr}
use Rattle.rows_saved.specs.declared.fault.RowsFault.{RowsFault}
use Rattle.rows_saved.specs.declared.fault.RowsFault.TheVariants as rows
use Rattle.refusals.specs.declared.refusal.StepRefusal.{StepRefusal}
use Rattle.refusals.specs.declared.refusal.StepRefusal.TheVariants as steps
use Rattle.command_ends.specs.declared.end.End.{End}
use Rattle.command_ends.specs.declared.end.End.TheVariants.{Input, Usage, Store, Memory, Busy}
use Rattle.command_ends.specs.declared.end.End.TheVariants as ends
use Rattle.command_ends.specs.declared.fault.Fault.{Fault}
use Rattle.command_ends.specs.declared.fault.Fault.TheVariants as faults

-- want of memory, the store of rows, the socket, the command line and a folder that another process works with have ends of their own; any other
-- fault is one of an input
abbrev pub end_of : Fault → End
end_of (faults.CannotRead path) = Input
end_of faults.CannotWrite = Input
end_of faults.InputTooLong = Input
end_of faults.OutOfMemory = Memory
end_of (faults.Table fault) = Input
end_of (faults.Widths fault) = Input
end_of (faults.Tape fault) = Input
end_of (faults.Unset fault) = Input
end_of (faults.Script line what) = Input
end_of (faults.Rows fault) = Store
end_of (faults.RowsFile fault cause) = Store
end_of (faults.Config what) = Input
end_of (faults.ConfigKey what key) = Input
end_of (faults.ConfigStation entry) = Input
end_of (faults.ConfigHost entry) = Input
end_of (faults.Key what) = Input
end_of (faults.KeyUnread path) = Input
end_of faults.NoFolders = Input
end_of (faults.Offers what why) = Input
end_of (faults.Misplaced what how which) = Input
end_of (faults.InUse folder) = Busy
end_of (faults.NotEnded seconds) = Input
end_of (faults.StillHeld seconds process) = Input
end_of (faults.Socket what) = ends.Socket
end_of (faults.SendFailed member) = ends.Socket
end_of (faults.Refused refusal) = Input
end_of (faults.Usage what) = Usage
end_of faults.Unpaired = Usage
end_of faults.LayoutAlone = Usage

-- rows that are not read or saved for want of memory end a command as any want of memory does
abbrev pub end_of_rows : RowsFault → End
end_of_rows rows.Store = Store
end_of_rows rows.WrongStation = Store
end_of_rows rows.WrongSchema = Store
end_of_rows (rows.Damaged number) = Store
end_of_rows rows.OutOfMemory = Memory

-- a step that a station refused: by its rows, for want of memory, or for what was asked of it
abbrev pub end_of_step : StepRefusal → End
end_of_step steps.Stopped = Input
end_of_step (steps.BadDatagram fault) = Input
end_of_step steps.WrongCircuit = Input
end_of_step steps.NotForMe = Input
end_of_step steps.Stranger = Input
end_of_step steps.BadNumber = Input
end_of_step steps.NoSuchMember = Input
end_of_step steps.AlreadyReleased = Input
end_of_step steps.AlreadyOpen = Input
end_of_step steps.WireTooOld = Input
end_of_step (steps.TapeFaulty fault) = Input
end_of_step steps.RoundsSpent = Input
end_of_step (steps.Store fault) = end_of_rows fault
end_of_step steps.OutOfMemory = Memory

-- memory for a text was refused, or it can't be written
abbrev pub IsOfWriting : Fault → Type 0
IsOfWriting fault = (fault ≡ faults.OutOfMemory) ⊎ (fault ≡ faults.CannotWrite)

-- a command that only an input, an output or want of memory can end before all is done
abbrev pub IsOfInput : End → Type 0
IsOfInput ends.Done = Unit {0}
IsOfInput Input = Unit {0}
IsOfInput Usage = ⊥
IsOfInput Store = ⊥
IsOfInput ends.Socket = ⊥
IsOfInput Memory = Unit {0}
IsOfInput Busy = ⊥

-- one that also the store of rows can end
abbrev pub IsOfRows : End → Type 0
IsOfRows ends.Done = Unit {0}
IsOfRows Input = Unit {0}
IsOfRows Usage = ⊥
IsOfRows Store = Unit {0}
IsOfRows ends.Socket = ⊥
IsOfRows Memory = Unit {0}
IsOfRows Busy = ⊥

-- a command line that is none, or want of memory
abbrev pub IsOfUsage : End → Type 0
IsOfUsage end = (end ≡ Usage) ⊎ (end ≡ Memory)

-- a command ends by a fault as this says, and not well
pub record EndsBy (by given : End) : Type 0 where
  pub end : given ≡ by
  pub fails : ¬ (given ≡ ends.Done)

-- a command ends after this outcome: well, or by its fault as this says, and not well
pub record EndsAfter {A F : Type 0} (ends_as : F → End) (outcome : Result A F) (by : End) : Type 0 where
  pub ok : OnOk outcome (by ≡ ends.Done)
  pub err : IfErr outcome (λ fault. EndsBy (ends_as fault) by)

-- a command that found something well ends well, else as by a fault of an input
abbrev pub found : Bool → End
found true = ends.Done
found false = Input

-- a command that was to find out whether something is well ends after this outcome: as it found, or by its fault as this says, and not well
pub record FoundAfter {F : Type 0} (ends_as : F → End) (outcome : Result Bool F) (by : End) : Type 0 where
  pub ok : IfOk outcome (λ is_well. by ≡ found is_well)
  pub err : IfErr outcome (λ fault. EndsBy (ends_as fault) by)

-- rows that are refused by this fault are told so
pub record EndsByRows (fault : RowsFault) (told : Fault) : Type 0 where
  pub end : end_of told ≡ end_of_rows fault
  pub rows : IsOfRows (end_of told)
