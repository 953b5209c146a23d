-- Its steps come apart at each event.
use Rattle.process_days.proofs.Cutting.{prefixes_are_logs, logs_have_prefixes, saves_are_stored}
use Rattle.process_days.proofs.laws.logs_have_prefixes.Goals as goal

pub returns-clause-prefixes : goal.returns-clause-prefixes
returns-clause-prefixes g c = logs_have_prefixes g.R.Rows _

pub returns-clause-stored : goal.returns-clause-stored
returns-clause-stored g c = saves_are_stored g.R.Rows _

pub returns-clause-logs : goal.returns-clause-logs
returns-clause-logs g c = prefixes_are_logs g.R.Rows _
