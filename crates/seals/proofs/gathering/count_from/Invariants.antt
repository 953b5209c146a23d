use Rattle.std.proofs.Common.{◌≡◌, ◌≤◌, take}
use Rattle.seals.specs.Places.{count_from}
use Rattle.seals.proofs.gathering.count_from.Given as goal

abbrev pub invariant-loop-slot : goal.invariant-loop-slot
invariant-loop-slot l = (l.count ≡ count_from l.member (take l.slot-index l.slots)) × (l.count ≤ l.slot-index)
