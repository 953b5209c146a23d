-- What an act of a command gives, if it is not ended by a fault of an input.
use Rattle.std.specs.Prelude.{Result, IfOk, IfErr}
use Rattle.command_ends.specs.declared.fault.Fault.{Fault}
use Rattle.command_ends.specs.Ends.{end_of, IsOfInput}

-- what it gave is such a value, or else a fault that ends the command as one of an input does
pub record Gives {A : Type 0} (result : Result A Fault) (Is : A → Type 0) : Type 0 where
  -- of what it gave this holds
  pub ok : IfOk result Is
  -- its fault is of an input, of the output or of memory
  pub err : IfErr result (λ fault. IsOfInput (end_of fault))
