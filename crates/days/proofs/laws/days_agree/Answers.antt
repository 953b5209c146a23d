-- From the agreement of every history, and from that there is a circuit of any plants.
use Rattle.days.proofs.Agreeing.{days_agree}
use Rattle.days.proofs.laws.days_agree.Goals as goal

pub returns : goal.returns
returns g c = days_agree c.agreement.ensures c.circuits_exist.ensures _
