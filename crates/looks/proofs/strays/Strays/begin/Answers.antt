-- None are in order.
use Rattle.looks.proofs.Steps.{empty_in_order}
use Rattle.looks.proofs.strays.Strays.begin.Goals as goal

pub invariant_of-self : goal.invariant_of-self
invariant_of-self c = rw (c.replace-known.ensures.after, c.new.ensures.items) empty_in_order
