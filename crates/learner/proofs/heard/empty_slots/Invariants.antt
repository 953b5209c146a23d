use Rattle.std.proofs.Common.{◌≡◌, length}
use Rattle.learner.specs.Slots.{nothing_heard}
use Rattle.learner.proofs.heard.empty_slots.Given as goal

abbrev pub invariant-loop : goal.invariant-loop
invariant-loop l = record { empty : l.slots.items ≡ nothing_heard l.counter; many : length l.slots.items ≡ l.counter }
