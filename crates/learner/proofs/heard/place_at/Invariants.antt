use Rattle.std.proofs.Common.{◌≡◌, None, take}
use Rattle.learner.specs.Slots.{least_in}
use Rattle.learner.proofs.heard.place_at.Given as goal

abbrev pub invariant-loop-place : goal.invariant-loop-place
invariant-loop-place l = least_in l.ballot (take l.place l.slots) ≡ None
