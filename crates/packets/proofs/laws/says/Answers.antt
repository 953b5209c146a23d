use Rattle.packets.proofs.Unique.{says_its_version}
use Rattle.packets.proofs.laws.says.Goals as goal

pub returns : goal.returns
returns c = says_its_version
