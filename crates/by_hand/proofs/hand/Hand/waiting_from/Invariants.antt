-- None of the numbers so far waits.
use Rattle.std.proofs.Common.{◌≡◌, ◌≤◌, ◌<◌, ◌+◌, ◌-◌, ℕ, false}
use Rattle.protocol.specs.Limits.{last_number}
use Rattle.by_hand.specs.Hands.{waits}
use Rattle.by_hand.proofs.hand.Hand.waiting_from.Given as goal

abbrev pub invariant-loop-place : goal.invariant-loop-place
invariant-loop-place l = record { above : l.fn.start ≤ l.place; none : (m : ℕ) → l.fn.start ≤ m → m < l.place → waits l.self m ≡ false }

abbrev pub decreases-loop-place : goal.decreases-loop-place
decreases-loop-place l = last_number + 1 - l.place
