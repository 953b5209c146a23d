-- By taking the steps.
use Rattle.protocol_laws.proofs.Contending.{unsaved_vote_is_lost}
use Rattle.protocol_laws.proofs.laws.unsaved_vote_is_lost.Goals as goal

pub returns : goal.returns
returns g c = unsaved_vote_is_lost
