use Rattle.acceptor_store.proofs.BegunLemmas.{opens_begun, begun_at_rest, group_begun, upgrade_begun}
use Rattle.acceptor_store.proofs.laws.what_is_begun_is_found.Goals as goal

pub returns : goal.returns
returns g c = record { found = opens_begun; group = group_begun; rest = begun_at_rest; upgrade = upgrade_begun }
