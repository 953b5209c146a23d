-- A number that is offered or sought, checked before its row is read.
use Rattle.std.specs.Prelude.{◌≡◌, ℕ, List, Option, Result, IfOk, IfErr, false}
use Rattle.protocol.specs.Marks.{Mark}
use Rattle.node_core.specs.Standing.{Core, OfItsMarks}
use Rattle.refusals.specs.declared.refusal.StepRefusal.{StepRefusal}
use Rattle.station.specs.Refusing.{Refusal, Checks}
use Rattle.station.specs.Steps.{tears}

-- the number that is asked for is handed on where the marks of this core give no reason to refuse it; else it is refused for the first one
pub record ChecksAsked (n : ℕ) (core : Core) (reason : List Mark → Option Refusal) (result : Result ℕ StepRefusal) : Type 0 where
  pub value : IfOk result (λ m. m ≡ n)
  pub checks : OfItsMarks core (λ marks. Checks (reason marks) result)
  -- what it is refused for stops no station
  pub goes_on : IfErr result (λ r. tears r ≡ false)
