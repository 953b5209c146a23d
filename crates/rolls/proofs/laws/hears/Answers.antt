-- The fourth byte tells which it is, and it is read again.
use Rattle.rolls.proofs.Again.{hears_rolls, hears_recalls}
use Rattle.rolls.proofs.laws.hears.Goals as goal

pub returns-clause-rolls : goal.returns-clause-rolls
returns-clause-rolls c = hears_rolls

pub returns-clause-recalls : goal.returns-clause-recalls
returns-clause-recalls c = hears_recalls c.reading.ensures.again
