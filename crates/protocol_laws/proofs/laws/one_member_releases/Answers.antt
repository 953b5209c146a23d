-- One step.
use Rattle.protocol_laws.proofs.Rehearsing.{one_member_releases}
use Rattle.protocol_laws.proofs.laws.one_member_releases.Goals as goal

pub returns : goal.returns
returns g c = one_member_releases
