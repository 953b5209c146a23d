-- From the steps.
use Rattle.protocol_laws.proofs.Holding.{histories_fit}
use Rattle.protocol_laws.proofs.laws.histories_fit.Goals as goal

pub returns : goal.returns
returns g c = histories_fit
