-- The steps that it took come apart at the cut.
use Rattle.driver.specs.Driving.{fate_of}
use Rattle.run_command.specs.Running.{tells}
use Rattle.serve_command.specs.Serving.{prints}
use Rattle.process_days.proofs.Cutting.{logs_can_be_cut}
use Rattle.process_days.proofs.laws.logs_can_be_cut.Goals as goal

pub returns-clause-driven : goal.returns-clause-driven
returns-clause-driven g c = logs_can_be_cut g.R.Rows g.R.Settles.is_settled g.N.Wire.passed (fate_of g.S.Sink)

pub returns-clause-runs : goal.returns-clause-runs
returns-clause-runs g c = λ texts. logs_can_be_cut g.R.Rows g.R.Settles.is_settled g.N.Wire.passed (tells texts g.F.Folders.doings g.F.Folders.refuses)

pub returns-clause-serves : goal.returns-clause-serves
returns-clause-serves g c = logs_can_be_cut g.R.Rows g.R.Settles.is_settled g.N.Wire.passed (prints g.W.Write.contents)
