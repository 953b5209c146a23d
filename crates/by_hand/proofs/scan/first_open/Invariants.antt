-- Each of the numbers so far has an answer.
use Rattle.std.proofs.Common.{◌≡◌, ◌≤◌, ◌<◌, ◌+◌, ◌-◌, ℕ, true}
use Rattle.protocol.specs.Limits.{last_number}
use Rattle.gone_out.specs.Numbers.{has}
use Rattle.by_hand.proofs.scan.first_open.Given as goal

abbrev pub invariant-loop-place : goal.invariant-loop-place
invariant-loop-place l = record { above : l.fn.start ≤ l.place; high : l.place ≤ last_number + 1; all : (n : ℕ) → l.fn.start ≤ n → n < l.place → has l.answered n ≡ true }

abbrev pub decreases-loop-place : goal.decreases-loop-place
decreases-loop-place l = last_number + 1 - l.place
