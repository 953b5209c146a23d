-- Eight steps.
use Rattle.protocol_laws.proofs.Rehearsing.{three_members_release}
use Rattle.protocol_laws.proofs.laws.three_members_release.Goals as goal

pub returns : goal.returns
returns g c = three_members_release
