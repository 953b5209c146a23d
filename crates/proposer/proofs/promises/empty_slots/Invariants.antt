use Rattle.std.proofs.Common.{◌≡◌, length}
use Rattle.proposer.specs.Slots.{nothing_counted}
use Rattle.proposer.proofs.promises.empty_slots.Given as goal

abbrev pub invariant-loop : goal.invariant-loop
invariant-loop l = record { empty : l.slots.items ≡ nothing_counted l.counter; many : length l.slots.items ≡ l.counter }
