-- What was sent and what waits is what was handed out.
use Rattle.driver.specs.Driving.{fate_of}
use Rattle.run_command.specs.Running.{tells}
use Rattle.serve_command.specs.Serving.{prints}
use Rattle.process_days.proofs.Ends.{good_ends_send_all}
use Rattle.process_days.proofs.laws.good_ends_send_all.Goals as goal

pub returns-clause-driven : goal.returns-clause-driven
returns-clause-driven g c = good_ends_send_all g.R.Rows g.R.Settles.is_settled g.N.Wire.passed (fate_of g.S.Sink)

pub returns-clause-runs : goal.returns-clause-runs
returns-clause-runs g c = λ texts. good_ends_send_all g.R.Rows g.R.Settles.is_settled g.N.Wire.passed (tells texts g.F.Folders.doings g.F.Folders.refuses)

pub returns-clause-serves : goal.returns-clause-serves
returns-clause-serves g c = good_ends_send_all g.R.Rows g.R.Settles.is_settled g.N.Wire.passed (prints g.W.Write.contents)
