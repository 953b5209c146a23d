-- The steps whose datagrams were sent so far.
use Rattle.std.proofs.Common.{take}
use Rattle.wire.specs.Passing.{Passes}
use Rattle.driver.specs.Driving.{sends}
use Rattle.driver.proofs.group.Group.hand_on.Given as goal

abbrev pub invariant-loop-step : goal.invariant-loop-step
invariant-loop-step g l = Passes (g.N.Wire.passed l.initial.wire) (g.N.Wire.passed l.wire) (sends (take l.step-index l.step-items))
