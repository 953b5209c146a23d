use Rattle.std.proofs.Common.{◌≡◌, length}
use Rattle.offers.specs.Order.{from}
use Rattle.offers.proofs.look.skip_to.Given as goal

abbrev pub invariant-loop-rest : goal.invariant-loop-rest
invariant-loop-rest l = from l.low l.rest.items ≡ from l.low l.initial.rest.items

abbrev pub decreases-loop-rest : goal.decreases-loop-rest
decreases-loop-rest l = length l.rest.items
