-- The turns so far.
use Rattle.std.proofs.Common.{Ok}
use Rattle.driver.specs.Driving.{DroveUpTo}
use Rattle.serve_command.specs.Serving.{AreTurns}
use Rattle.serve_command.proofs.serve_loop.run_turns.Given as goal

abbrev pub invariant-loop : goal.invariant-loop
invariant-loop g l = DroveUpTo {A = Unit {0}} (AreTurns l.counter) (Ok tt) g.R.Rows g.R.Settles.is_settled g.N.Wire.passed g.S.Sink l.initial.driver l.driver
