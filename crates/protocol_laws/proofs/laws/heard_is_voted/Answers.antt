-- From the soundness of every history.
use Rattle.protocol_laws.proofs.Agreements.{heard_is_voted, told_is_voted}
use Rattle.protocol_laws.proofs.laws.heard_is_voted.Goals as goal

pub returns-clause-heard : goal.returns-clause-heard
returns-clause-heard g c = heard_is_voted

pub returns-clause-told : goal.returns-clause-told
returns-clause-told g c = told_is_voted
