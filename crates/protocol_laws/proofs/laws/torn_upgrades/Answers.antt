-- By taking the steps.
use Rattle.protocol_laws.proofs.Upgrading.{torn_upgrades}
use Rattle.protocol_laws.proofs.laws.torn_upgrades.Goals as goal

pub returns : goal.returns
returns g c = torn_upgrades
