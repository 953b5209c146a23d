-- As processes agree whose events are in turn.
use Rattle.process_days.proofs.Coming.{logs_agree}
use Rattle.process_days.proofs.sealed.sealed_logs_agree.Goals as goal

pub returns : goal.returns
returns g c = logs_agree g.S.Socket.came g.R.Rows _ c.processes_agree.ensures
