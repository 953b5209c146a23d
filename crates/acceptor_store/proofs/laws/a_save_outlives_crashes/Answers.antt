use Rattle.acceptor_store.proofs.RestartLemmas.{put_outlives}
use Rattle.acceptor_store.proofs.laws.a_save_outlives_crashes.Goals as goal

pub returns : goal.returns
returns g c = put_outlives
