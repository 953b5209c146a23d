-- Each of the numbers so far has the answer.
use Rattle.std.proofs.Common.{◌≡◌, ◌≤◌, ◌-◌, ℕ}
use Rattle.by_hand.specs.Hands.{answer_of}
use Rattle.by_hand.proofs.lines.line_from.Given as goal

abbrev pub invariant-loop-next : goal.invariant-loop-next
invariant-loop-next l = record { rises : l.fn.first ≤ l.last; within : l.last ≤ l.hand.last; all : (n : ℕ) → l.fn.first ≤ n → n ≤ l.last → answer_of l.hand n ≡ l.answer }

abbrev pub decreases-loop-next : goal.decreases-loop-next
decreases-loop-next l = l.hand.last - l.last
