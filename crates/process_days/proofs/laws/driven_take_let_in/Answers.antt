-- By what passed over the wire.
use Rattle.process_days.proofs.LetIn.{takes_let_in}
use Rattle.process_days.proofs.laws.driven_take_let_in.Goals as goal

pub returns-clause-driven : goal.returns-clause-driven
returns-clause-driven g c = λ old new end log d. takes_let_in (g.N.Wire.passed old.wire) (g.N.Wire.passed new.wire) old.waits log d.passes

pub returns-clause-runs : goal.returns-clause-runs
returns-clause-runs g c = λ texts old new end log d. takes_let_in (g.N.Wire.passed old.wire) (g.N.Wire.passed new.wire) old.waits log d.passes

pub returns-clause-serves : goal.returns-clause-serves
returns-clause-serves g c = λ old new end log d. takes_let_in (g.N.Wire.passed old.wire) (g.N.Wire.passed new.wire) old.waits log d.passes
