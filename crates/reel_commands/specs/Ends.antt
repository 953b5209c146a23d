-- How a command over reels ends.
use Rattle.std.specs.Prelude.{Result, Ok, Err}
use Rattle.command_ends.specs.Ends.{end_of, IsOfInput}
use Rattle.command_ends.specs.declared.end.End.{End}
use Rattle.command_ends.specs.declared.end.End.TheVariants.{Input}
use Rattle.reel_commands.specs.declared.cause.ReelFault.{ReelFault}
use Rattle.reel_commands.specs.declared.cause.ReelFault.TheVariants as faults

-- the end of a command by a fault: that of the fault that all commands share, else it is one of an input
abbrev pub end_in : ReelFault → End
end_in (faults.Other fault) = end_of fault
end_in faults.EmptyReel = Input
end_in faults.NoTape = Input
end_in (faults.TooMany tapes) = Input
end_in (faults.NoFolder folder) = Input
end_in (faults.Taken folder name) = Input
end_in (faults.NotMade folder name made) = Input
end_in (faults.Tape path fault) = Input

-- what an act of the command gives is so, or else a fault of an input, of the output or of memory
abbrev pub Gives : {A : Type 0} → Result A ReelFault → (A → Type 0) → Type 0
Gives (Ok given) P = P given
Gives (Err fault) P = IsOfInput (end_in fault)
