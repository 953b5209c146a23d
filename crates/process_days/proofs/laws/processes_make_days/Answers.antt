-- One event after the other.
use Rattle.process_days.proofs.GoingOn.{make_days}
use Rattle.process_days.proofs.laws.processes_make_days.Goals as goal

pub returns : goal.returns
returns g c = make_days g.R.Rows _
