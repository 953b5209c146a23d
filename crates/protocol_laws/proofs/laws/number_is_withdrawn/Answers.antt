-- As three release a tape; and by computing the refusals.
use Rattle.protocol_laws.proofs.Withdrawing.{number_is_withdrawn, withdrawal_wants_version_two}
use Rattle.protocol_laws.proofs.laws.number_is_withdrawn.Goals as goal

pub returns-clause-withdrawn : goal.returns-clause-withdrawn
returns-clause-withdrawn g c = number_is_withdrawn

pub returns-clause-wants : goal.returns-clause-wants
returns-clause-wants g c = withdrawal_wants_version_two
