-- One request more is one step of the row.
use Rattle.protocol_laws.proofs.Requests.{steps}
use Rattle.protocol_laws.proofs.laws.acceptor_steps.Goals as goal

pub returns : goal.returns
returns c = steps
