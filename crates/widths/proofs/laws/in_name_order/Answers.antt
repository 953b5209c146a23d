-- The law is that of the lemmas.
use Rattle.widths.proofs.Ordering.{stands_in_order, keeps_members}
use Rattle.widths.proofs.laws.in_name_order.Goals as goal

pub returns-clause-order : goal.returns-clause-order
returns-clause-order c = stands_in_order

pub returns-clause-members : goal.returns-clause-members
returns-clause-members c = keeps_members
