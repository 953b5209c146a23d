use Rattle.acceptor_store.proofs.StepLemmas.{two_steps}
use Rattle.acceptor_store.proofs.laws.a_crash_is_two_steps.Goals as goal

pub returns : goal.returns
returns g c = two_steps
