-- What was read is read in the grammar's words.
use Rattle.std.proofs.Common.{arith, ◌∙◌}
use Rattle.rolls.proofs.Again.{reads_it_again}
use Rattle.rolls.proofs.Found.{at_found, at_nothing}
use Rattle.rolls.proofs.reading.decode.Goals as goal

pub returns-clause-found : goal.returns-clause-found
returns-clause-found c = at_found _ _ (λ i. omega (arith, c.type_inv.bytes i)) c.roll_of.ensures

pub returns-clause-only : goal.returns-clause-only
returns-clause-only c r s = c.roll_of.ensures ∙ reads_it_again _ r s

pub returns-clause-nothing : goal.returns-clause-nothing
returns-clause-nothing c = at_nothing _ _ c.roll_of.ensures
