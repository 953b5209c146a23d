use Rattle.acceptor_store.proofs.AcknowledgedLemmas.{at_rest_is_found, restart_of}
use Rattle.acceptor_store.proofs.laws.a_crash_at_rest_is_a_restart.Goals as goal

pub returns-clause-found : goal.returns-clause-found
returns-clause-found g c = at_rest_is_found

pub returns-clause-restart : goal.returns-clause-restart
returns-clause-restart g c = restart_of
