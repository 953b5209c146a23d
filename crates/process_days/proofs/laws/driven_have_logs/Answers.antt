-- The steps that it took.
use Rattle.process_days.proofs.laws.driven_have_logs.Goals as goal

pub returns-clause-driven : goal.returns-clause-driven
returns-clause-driven g c = λ old new end log d kept. (kept, d.steps)

pub returns-clause-runs : goal.returns-clause-runs
returns-clause-runs g c = λ texts old new end log d kept. (kept, d.steps)

pub returns-clause-serves : goal.returns-clause-serves
returns-clause-serves g c = λ old new end log d kept. (kept, d.steps)
