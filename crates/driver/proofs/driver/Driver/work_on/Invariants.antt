-- The steps so far.
use Rattle.std.proofs.Common.{Ok}
use Rattle.driver.specs.Driving.{DroveBehind, Anyhow}
use Rattle.driver.proofs.driver.Driver.work_on.Given as goal

abbrev pub invariant-loop : goal.invariant-loop
invariant-loop g l = DroveBehind {A = Unit {0}} Anyhow (Ok tt) g.R.Rows g.R.Settles.is_settled g.N.Wire.passed g.S.Sink l.initial.self l.self l.initial.group l.group
