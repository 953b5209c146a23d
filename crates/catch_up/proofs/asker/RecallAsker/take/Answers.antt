-- What waits behind the first is as before.
use Rattle.catch_up.proofs.Rising.{rest_numbers, rest_few}
use Rattle.catch_up.proofs.asker.RecallAsker.take.Goals as goal

pub invariant_of-self : goal.invariant_of-self
invariant_of-self c = (rest_numbers _ _ _ c.take_first.ensures.first c.self.invariant.0, rest_few _ _ _ c.take_first.ensures.first c.self.invariant.1)
