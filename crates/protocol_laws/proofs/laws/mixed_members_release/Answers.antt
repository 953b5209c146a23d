-- By taking the steps.
use Rattle.protocol_laws.proofs.Withdrawing.{mixed_members_release}
use Rattle.protocol_laws.proofs.laws.mixed_members_release.Goals as goal

pub returns : goal.returns
returns g c = mixed_members_release
