-- From the agreement of each day.
use Rattle.process_days.proofs.GoingOn.{agree}
use Rattle.process_days.proofs.laws.processes_agree.Goals as goal

pub returns : goal.returns
returns g c = agree g.R.Rows _ c.days_agree.ensures
