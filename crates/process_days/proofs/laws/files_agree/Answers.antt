-- From the agreement of each day.
use Rattle.process_days.proofs.Filed.{files_agree}
use Rattle.process_days.proofs.laws.files_agree.Goals as goal

pub returns : goal.returns
returns g c = files_agree g.R.Rows c.days_agree.ensures
