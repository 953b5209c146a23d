-- Which file of keys is taken, and how it is told where it is not.
use Rattle.std.specs.Prelude.{◌≡◌, ℕ, ◌%◌, ◌==◌, Bool, not, List, Option, Some, None, Result, Ok, Err, if◌then◌else◌}
use Rattle.command_ends.specs.Ends.{end_of, IsOfInput}
use Rattle.command_ends.specs.declared.end.End.{End}
use Rattle.command_ends.specs.declared.end.End.TheVariants.{Input, Memory}
use Rattle.command_ends.specs.declared.fault.Fault.{Fault}
use Rattle.circuit_keys.specs.declared.key_file.SharedKeys.{SharedKeys}
use Rattle.circuit_keys.specs.KeyFile.{keys_in}
use Rattle.circuit_keys.specs.declared.fault.KeyFault.{KeyFault}
use Rattle.circuit_keys.specs.declared.fault.KeyFault.TheVariants.{CannotRead, OthersCan, BadFile, OutOfMemory}

-- others than the owner of a file of this mode can open it: one of the last six bits is set, three for its group and three for whoever
abbrev pub others_can : ℕ → Bool
others_can mode = not (mode % 64 == 0)

-- the keys that were read, if there were such
abbrev pub keys_read : Option SharedKeys → Result SharedKeys KeyFault
keys_read None = Err BadFile
keys_read (Some keys) = Ok keys

-- the keys in the text of a file of this mode, or why it is not taken
abbrev pub keys_taken : ℕ → List ℕ → Result SharedKeys KeyFault
keys_taken mode text = if others_can mode then Err OthersCan else keys_read (keys_in text)

-- want of memory has an end of its own; any other fault is one of an input
abbrev pub end_of_key : KeyFault → End
end_of_key CannotRead = Input
end_of_key OthersCan = Input
end_of_key BadFile = Input
end_of_key OutOfMemory = Memory

-- keys that are not taken for this fault are told so: by a fault of an input or for want of memory
pub record EndsByKey (fault : KeyFault) (told : Fault) : Type 0 where
  pub end : end_of told ≡ end_of_key fault
  pub cause : IsOfInput (end_of told)
