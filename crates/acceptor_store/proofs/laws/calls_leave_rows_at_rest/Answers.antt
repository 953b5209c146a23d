use Rattle.acceptor_store.proofs.AcknowledgedLemmas.{calls_rest}
use Rattle.acceptor_store.proofs.laws.calls_leave_rows_at_rest.Goals as goal

pub returns : goal.returns
returns g c = calls_rest g.S.Store
