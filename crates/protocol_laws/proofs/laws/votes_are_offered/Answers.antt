-- From the soundness of every history.
use Rattle.protocol_laws.proofs.Agreements.{votes_are_offered}
use Rattle.protocol_laws.proofs.laws.votes_are_offered.Goals as goal

pub returns : goal.returns
returns g c = votes_are_offered
