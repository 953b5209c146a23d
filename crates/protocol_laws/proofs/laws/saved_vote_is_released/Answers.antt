-- Five steps.
use Rattle.protocol_laws.proofs.Rehearsing.{saved_vote_is_released}
use Rattle.protocol_laws.proofs.laws.saved_vote_is_released.Goals as goal

pub returns : goal.returns
returns g c = saved_vote_is_released
