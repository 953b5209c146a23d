use Rattle.std.proofs.Common.{◌≡◌, ◌≤◌, take, count_by}
use Rattle.protocol.specs.Learner.{votes_at}
use Rattle.learner.proofs.heard.count_at.Given as goal

abbrev pub invariant-loop-slot : goal.invariant-loop-slot
invariant-loop-slot l = record { counted : l.count ≡ count_by (votes_at l.ballot) (take l.slot-index l.slots); few : l.count ≤ l.slot-index }
