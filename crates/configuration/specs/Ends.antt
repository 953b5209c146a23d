-- How a command ends by a configuration that is none.
use Rattle.std.specs.Prelude.{◌≡◌}
use Rattle.command_ends.specs.Ends.{end_of, IsOfInput}
use Rattle.command_ends.specs.declared.end.End.{End}
use Rattle.command_ends.specs.declared.end.End.TheVariants.{Input, Memory}
use Rattle.command_ends.specs.declared.fault.Fault.{Fault}
use Rattle.configuration.specs.declared.fault.ConfigFault.{ConfigFault}
use Rattle.configuration.specs.declared.fault.ConfigFault.TheVariants.{NotToml, Missing, WrongType, OutOfRange, BadStation, NoAddress, OutOfMemory}

-- want of memory has an end of its own; any other fault is one of an input
abbrev pub end_of_config : ConfigFault → End
end_of_config NotToml = Input
end_of_config (Missing key) = Input
end_of_config (WrongType key) = Input
end_of_config (OutOfRange key) = Input
end_of_config (BadStation entry) = Input
end_of_config (NoAddress entry) = Input
end_of_config OutOfMemory = Memory

-- a configuration that is none for this fault is told so: by a fault of an input or for want of memory
pub record EndsByConfig (fault : ConfigFault) (told : Fault) : Type 0 where
  pub end : end_of told ≡ end_of_config fault
  pub cause : IsOfInput (end_of told)
