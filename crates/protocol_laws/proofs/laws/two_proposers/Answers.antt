-- By taking the steps.
use Rattle.protocol_laws.proofs.Contending.{lower_is_denied, two_proposers_fight}
use Rattle.protocol_laws.proofs.laws.two_proposers.Goals as goal

pub returns-clause-denied : goal.returns-clause-denied
returns-clause-denied g c = lower_is_denied

pub returns-clause-fight : goal.returns-clause-fight
returns-clause-fight g c = two_proposers_fight
