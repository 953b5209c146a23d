use Rattle.rolls.proofs.Again.{one_roll}
use Rattle.rolls.proofs.laws.one_roll.Goals as goal

pub returns : goal.returns
returns c = one_roll
