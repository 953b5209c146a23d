-- Reading goes by the grammar, both ways.
use Rattle.rolls.proofs.Again.{reads_it_again}
use Rattle.rolls.proofs.Found.{finds_what_is_spelled}
use Rattle.rolls.proofs.laws.reading.Goals as goal

pub returns-clause-again : goal.returns-clause-again
returns-clause-again c = reads_it_again

pub returns-clause-found : goal.returns-clause-found
returns-clause-found c = finds_what_is_spelled
