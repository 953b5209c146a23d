-- None of the numbers behind is in the set.
use Rattle.std.proofs.Common.{◌≡◌, ◌≤◌, ◌<◌, ℕ, false}
use Rattle.protocol.specs.Limits.{last_number}
use Rattle.gone_out.specs.Numbers.{has}
use Rattle.by_hand.proofs.scan.greatest_from.Given as goal

abbrev pub invariant-loop-last : goal.invariant-loop-last
invariant-loop-last l = record { above : l.fn.first ≤ l.last; high : l.last ≤ last_number; none : (n : ℕ) → l.last < n → n ≤ last_number → has l.numbers n ≡ false }

abbrev pub decreases-loop-last : goal.decreases-loop-last
decreases-loop-last l = l.last
