use Rattle.acceptor_store.proofs.RestartLemmas.{upgrade_outlives}
use Rattle.acceptor_store.proofs.laws.an_upgrade_outlives_crashes.Goals as goal

pub returns : goal.returns
returns g c = upgrade_outlives
