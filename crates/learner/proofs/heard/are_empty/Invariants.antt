use Rattle.std.proofs.Common.{◌≡◌, take}
use Rattle.learner.specs.Slots.{nothing_heard}
use Rattle.learner.proofs.heard.are_empty.Given as goal

abbrev pub invariant-loop-slot : goal.invariant-loop-slot
invariant-loop-slot l = take l.slot-index l.slots ≡ nothing_heard l.slot-index
