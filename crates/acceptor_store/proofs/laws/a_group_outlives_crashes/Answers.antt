use Rattle.acceptor_store.proofs.RestartLemmas.{group_outlives}
use Rattle.acceptor_store.proofs.laws.a_group_outlives_crashes.Goals as goal

pub returns : goal.returns
returns g c = group_outlives
