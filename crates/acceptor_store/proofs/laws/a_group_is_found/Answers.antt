use Rattle.acceptor_store.proofs.RestartLemmas.{group_found}
use Rattle.acceptor_store.proofs.laws.a_group_is_found.Goals as goal

pub returns : goal.returns
returns g c = group_found
