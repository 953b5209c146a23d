-- From the soundness of every history.
use Rattle.protocol_laws.proofs.Agreements.{ripe_is_chosen, chosen_is_one}
use Rattle.protocol_laws.proofs.laws.chosen_is_one.Goals as goal

pub returns-clause-ripe : goal.returns-clause-ripe
returns-clause-ripe g c = ripe_is_chosen

pub returns-clause-one : goal.returns-clause-one
returns-clause-one g c = chosen_is_one
