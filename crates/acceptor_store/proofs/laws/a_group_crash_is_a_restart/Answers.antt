use Rattle.acceptor_store.proofs.StepLemmas.{group_restart}
use Rattle.acceptor_store.proofs.laws.a_group_crash_is_a_restart.Goals as goal

pub returns : goal.returns
returns g c = group_restart
