-- From the soundness of every history.
use Rattle.roll_laws.proofs.Voting.{votes_stay, who_voted_has_a_vote}
use Rattle.roll_laws.proofs.laws.votes_stay.Goals as goal

pub returns-clause-stay : goal.returns-clause-stay
returns-clause-stay g c = votes_stay

pub returns-clause-voted : goal.returns-clause-voted
returns-clause-voted g c = who_voted_has_a_vote
