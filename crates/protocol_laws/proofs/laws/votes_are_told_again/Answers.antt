-- By taking the steps.
use Rattle.protocol_laws.proofs.Recalling.{votes_are_told_again}
use Rattle.protocol_laws.proofs.laws.votes_are_told_again.Goals as goal

pub returns : goal.returns
returns g c = votes_are_told_again
