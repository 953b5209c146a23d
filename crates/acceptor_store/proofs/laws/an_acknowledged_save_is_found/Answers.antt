use Rattle.acceptor_store.proofs.AcknowledgedLemmas.{acknowledged_is_found}
use Rattle.acceptor_store.proofs.laws.an_acknowledged_save_is_found.Goals as goal

pub returns : goal.returns
returns g c = acknowledged_is_found
