use Rattle.rolls.proofs.Written.{lengths_are_given, none_is_short}
use Rattle.rolls.proofs.laws.lengths.Goals as goal

pub returns-clause-given : goal.returns-clause-given
returns-clause-given c = lengths_are_given

pub returns-clause-least : goal.returns-clause-least
returns-clause-least c = none_is_short
