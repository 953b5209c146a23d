use Rattle.recalls.proofs.Again.{no_prefix}
use Rattle.recalls.proofs.laws.no_prefix.Goals as goal

pub returns : goal.returns
returns c = no_prefix
