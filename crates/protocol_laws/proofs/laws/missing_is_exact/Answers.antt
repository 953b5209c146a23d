-- By the cases of a step.
use Rattle.protocol_laws.proofs.Missing.{missing_is_exact}
use Rattle.protocol_laws.proofs.laws.missing_is_exact.Goals as goal

pub returns : goal.returns
returns c = missing_is_exact
