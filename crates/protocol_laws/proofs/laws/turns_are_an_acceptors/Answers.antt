-- By cases of the row.
use Rattle.protocol_laws.proofs.Answering.{turns_are_an_acceptors}
use Rattle.protocol_laws.proofs.laws.turns_are_an_acceptors.Goals as goal

pub returns : goal.returns
returns c = turns_are_an_acceptors
