-- By the cases of a step.
use Rattle.protocol_laws.proofs.Tearing.{upgrades_keep_rows}
use Rattle.protocol_laws.proofs.laws.upgrades_keep_rows.Goals as goal

pub returns : goal.returns
returns g c = upgrades_keep_rows
