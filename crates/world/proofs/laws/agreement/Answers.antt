-- From the agreement of any circuit, and from that what is released is chosen.
use Rattle.world.proofs.Agreed.{agreed}
use Rattle.world.proofs.laws.agreement.Goals as goal

pub returns : goal.returns
returns c = agreed c.agreement.ensures c.releases_are_chosen.ensures
