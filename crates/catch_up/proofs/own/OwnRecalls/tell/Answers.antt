-- What is left behind the first number rises as before.
use Rattle.catch_up.proofs.Rising.{rise_numbers, rest_rises}
use Rattle.catch_up.proofs.own.OwnRecalls.tell.Goals as goal

pub take_first-requires : goal.take_first-requires
take_first-requires c = rise_numbers 0 _ c.self.invariant.left

pub invariant_of-self : goal.invariant_of-self
invariant_of-self c = record {
  numbers = c.self.invariant.numbers;
  few = c.self.invariant.few;
  left = rest_rises _ _ _ c.take_first.ensures.first c.self.invariant.left;
  low = c.self.invariant.low;
  high = c.self.invariant.high;
}
