use Rattle.acceptor_store.proofs.StepLemmas.{two_upgrade_steps}
use Rattle.acceptor_store.proofs.laws.an_upgrade_crash_is_two_steps.Goals as goal

pub returns : goal.returns
returns g c = two_upgrade_steps
