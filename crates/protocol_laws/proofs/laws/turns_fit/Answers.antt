-- From the table of the turn.
use Rattle.protocol_laws.proofs.Fitting.{turns_fit}
use Rattle.protocol_laws.proofs.laws.turns_fit.Goals as goal

pub returns : goal.returns
returns c = turns_fit
