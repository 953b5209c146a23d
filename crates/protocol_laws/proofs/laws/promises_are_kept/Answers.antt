-- From the soundness of every history.
use Rattle.protocol_laws.proofs.Agreements.{promises_bind, reports_are_greatest}
use Rattle.protocol_laws.proofs.laws.promises_are_kept.Goals as goal

pub returns-clause-bind : goal.returns-clause-bind
returns-clause-bind g c = promises_bind

pub returns-clause-reports : goal.returns-clause-reports
returns-clause-reports g c = reports_are_greatest
