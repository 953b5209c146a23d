use Rattle.std.proofs.Common.{◌≡◌, ◌≤◌, take, count_by}
use Rattle.std.specs.Prelude.{is_some}
use Rattle.learner.proofs.heard.count_votes.Given as goal

abbrev pub invariant-loop-slot : goal.invariant-loop-slot
invariant-loop-slot l = record { counted : l.votes ≡ count_by is_some (take l.slot-index l.slots); few : l.votes ≤ l.slot-index }
