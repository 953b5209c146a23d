-- From the soundness of every history.
use Rattle.protocol_laws.proofs.Agreements.{histories_agree}
use Rattle.protocol_laws.proofs.laws.agreement.Goals as goal

pub returns : goal.returns
returns g c = histories_agree
