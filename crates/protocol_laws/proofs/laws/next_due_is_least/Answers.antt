-- By the readings of each number.
use Rattle.protocol_laws.proofs.Due.{next_due_is_least, next_due_is_least_number}
use Rattle.protocol_laws.proofs.laws.next_due_is_least.Goals as goal

pub returns-clause-due : goal.returns-clause-due
returns-clause-due c = next_due_is_least

pub returns-clause-number : goal.returns-clause-number
returns-clause-number c = next_due_is_least_number
