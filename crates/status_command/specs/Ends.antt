-- How `status` ends where it can tell nothing of a station.
use Rattle.command_ends.specs.Ends.{end_of}
use Rattle.command_ends.specs.declared.end.End.{End}
use Rattle.command_ends.specs.declared.end.End.TheVariants as ends
use Rattle.status_command.specs.declared.fault.StatusFault.{StatusFault}
use Rattle.status_command.specs.declared.fault.StatusFault.TheVariants as faults
use Rattle.status_command.specs.declared.fault.UntoldStatus.{UntoldStatus}
use Rattle.status_command.specs.declared.fault.UntoldStatus.TheVariants as untold

-- never as a fault of an input, which would say that the station is not well: it is unknown whether it is
abbrev pub unknown : End → End
unknown ends.Done = ends.Done
unknown ends.Input = ends.Store
unknown ends.Usage = ends.Usage
unknown ends.Store = ends.Store
unknown ends.Socket = ends.Socket
unknown ends.Memory = ends.Memory
unknown ends.Busy = ends.Busy

-- want of memory ends it as it ends any command
abbrev pub end_of_status : StatusFault → End
end_of_status faults.Unnamed = ends.Store
end_of_status faults.Missing = ends.Store
end_of_status faults.NoFile = ends.Store
end_of_status faults.Unreadable = ends.Store
end_of_status faults.NoText = ends.Store
end_of_status faults.Later = ends.Store
end_of_status faults.Other = ends.Store
end_of_status faults.NoClock = ends.Store
end_of_status faults.Unwritten = ends.Store
end_of_status faults.OutOfMemory = ends.Memory

-- how the command ends where it can tell nothing
abbrev pub end_in : UntoldStatus → End
end_in (untold.Config fault) = unknown (end_of fault)
end_in (untold.Status path fault) = end_of_status fault
