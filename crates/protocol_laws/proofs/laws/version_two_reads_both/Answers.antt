-- Bytes say of which version they are.
use Rattle.protocol_laws.proofs.Steps.{spelled_heard}
use Rattle.protocol_laws.proofs.laws.version_two_reads_both.Goals as goal

pub returns : goal.returns
returns g c = spelled_heard
