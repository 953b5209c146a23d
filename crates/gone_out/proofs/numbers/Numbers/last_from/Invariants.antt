-- All of the numbers so far are in the set.
use Rattle.std.proofs.Common.{◌≡◌, ◌≤◌, ◌-◌, ℕ, true}
use Rattle.protocol.specs.Limits.{last_number}
use Rattle.gone_out.specs.Numbers.{has}
use Rattle.gone_out.proofs.numbers.Numbers.last_from.Given as goal

abbrev pub invariant-loop-number : goal.invariant-loop-number
invariant-loop-number l = record { rises : l.fn.first ≤ l.last; all : (n : ℕ) → l.fn.first ≤ n → n ≤ l.last → has l.self n ≡ true }

abbrev pub decreases-loop-number : goal.decreases-loop-number
decreases-loop-number l = last_number - l.last
