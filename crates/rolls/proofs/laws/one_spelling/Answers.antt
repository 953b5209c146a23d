-- What spells a roll is what is written of it.
use Rattle.rolls.proofs.Written.{has_one_spelling, only_rolls}
use Rattle.rolls.proofs.laws.one_spelling.Goals as goal

pub returns-clause-has : goal.returns-clause-has
returns-clause-has c = has_one_spelling

pub returns-clause-only : goal.returns-clause-only
returns-clause-only c = only_rolls
