use Rattle.rolls.proofs.Again.{no_prefix}
use Rattle.rolls.proofs.laws.no_prefix.Goals as goal

pub returns : goal.returns
returns c = no_prefix
