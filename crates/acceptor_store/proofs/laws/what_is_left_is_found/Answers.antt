use Rattle.acceptor_store.proofs.RestartLemmas.{opens}
use Rattle.acceptor_store.proofs.laws.what_is_left_is_found.Goals as goal

pub returns : goal.returns
returns g c = opens
