use Rattle.std.proofs.Common.{◌≡◌, None}
use Rattle.learner.proofs.Looking.{ripe_before}
use Rattle.learner.proofs.heard.chosen_at.Given as goal

abbrev pub invariant-loop-slot : goal.invariant-loop-slot
invariant-loop-slot l = ripe_before l.slots l.slot-index ≡ None
