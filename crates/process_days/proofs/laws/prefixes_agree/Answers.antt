-- From the agreement of each day.
use Rattle.process_days.proofs.Cutting.{prefixes_agree}
use Rattle.process_days.proofs.laws.prefixes_agree.Goals as goal

pub returns : goal.returns
returns g c = prefixes_agree g.R.Rows _ c.days_agree.ensures
