-- From the soundness of every history.
use Rattle.protocol_laws.proofs.Agreements.{releases_are_chosen}
use Rattle.protocol_laws.proofs.laws.releases_are_chosen.Goals as goal

pub returns : goal.returns
returns g c = releases_are_chosen
