-- How `init` ends by a fault.
use Rattle.std.specs.Prelude.{Result, IfOk, IfErr}
use Rattle.command_ends.specs.Ends.{end_of, IsOfUsage}
use Rattle.command_ends.specs.declared.end.End.{End}
use Rattle.command_ends.specs.declared.end.End.TheVariants.{Input, Usage}
use Rattle.init_command.specs.declared.cause.InitFault.{InitFault}
use Rattle.init_command.specs.declared.cause.InitFault.TheVariants as faults

-- the end of the command by a fault: that of the fault that all commands share; what the line lists and can't be done is a mistake of the
-- line; else it is one of an input
abbrev pub end_in : InitFault → End
end_in (faults.Other fault) = end_of fault
end_in (faults.CannotRead path) = Input
end_in (faults.KeyUnread path) = Input
end_in faults.TooMany = Usage
end_in (faults.NoPlace at) = Usage
end_in (faults.NoHost at) = Usage
end_in (faults.Again at first) = Usage
end_in (faults.NoMember member stations) = Usage
end_in (faults.OldCircuit circuit) = Input
end_in faults.OldFolder = Input
end_in faults.OtherKey = Input
end_in faults.NoRandom = Input
end_in faults.Unlike = Input
end_in (faults.NotMade path) = Input

-- what an act gives of the words of a line is so; or else what the line lists is a mistake of it, or memory was refused
pub record OfLine {A : Type 0} (result : Result A InitFault) (Is : A → Type 0) : Type 0 where
  pub ok : IfOk result Is
  pub err : IfErr result (λ fault. IsOfUsage (end_in fault))
