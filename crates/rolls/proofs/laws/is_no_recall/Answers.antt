-- The fourth bytes differ.
use Rattle.rolls.proofs.Again.{is_no_recall, no_recall_is_one}
use Rattle.rolls.proofs.laws.is_no_recall.Goals as goal

pub returns-clause-roll : goal.returns-clause-roll
returns-clause-roll c = is_no_recall

pub returns-clause-recall : goal.returns-clause-recall
returns-clause-recall c = no_recall_is_one
