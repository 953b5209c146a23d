-- By taking the steps.
use Rattle.protocol_laws.proofs.Upgrading.{vote_outlives_upgrades}
use Rattle.protocol_laws.proofs.laws.vote_outlives_upgrades.Goals as goal

pub returns : goal.returns
returns g c = vote_outlives_upgrades
