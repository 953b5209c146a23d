-- Numbers without one rise as before, and are no more.
use Rattle.std.proofs.Common.{refl}
use Rattle.catch_up.proofs.Rising.{left_rises, left_few}
use Rattle.catch_up.proofs.own.OwnRecalls.leave.Goals as goal

pub invariant_of-self : goal.invariant_of-self
invariant_of-self c = record {
  numbers = left_rises _ _ _ _ refl c.without-numbers.ensures c.self.invariant.numbers;
  few = left_few _ _ _ _ refl c.without-numbers.ensures c.self.invariant.few;
  left = left_rises _ _ _ _ refl c.without-left.ensures c.self.invariant.left;
  low = c.self.invariant.low;
  high = c.self.invariant.high;
}
