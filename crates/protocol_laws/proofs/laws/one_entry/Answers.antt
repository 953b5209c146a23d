-- From the soundness of every history.
use Rattle.protocol_laws.proofs.Agreements.{one_entry}
use Rattle.protocol_laws.proofs.laws.one_entry.Goals as goal

pub returns : goal.returns
returns g c = one_entry
