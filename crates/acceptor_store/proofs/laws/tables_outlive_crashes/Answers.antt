use Rattle.acceptor_store.proofs.RestartLemmas.{create_outlives}
use Rattle.acceptor_store.proofs.laws.tables_outlive_crashes.Goals as goal

pub returns : goal.returns
returns g c = create_outlives
