use Rattle.looks.proofs.Steps.{empty_in_order}
use Rattle.looks.proofs.strays.Strays.over.Goals as goal

pub invariant_of-result : goal.invariant_of-result
invariant_of-result c = rw c.new.ensures.items empty_in_order
