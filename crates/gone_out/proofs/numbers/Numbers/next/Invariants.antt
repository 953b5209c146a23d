-- None of the numbers so far is in the set.
use Rattle.std.proofs.Common.{◌≤◌, ◌-◌}
use Rattle.protocol.specs.Limits.{last_number}
use Rattle.gone_out.specs.Ranges.{NoneBetween}
use Rattle.gone_out.proofs.numbers.Numbers.next.Given as goal

abbrev pub invariant-loop-number : goal.invariant-loop-number
invariant-loop-number l = record { above : l.fn.start ≤ l.number; none : NoneBetween l.self l.fn.start l.number }

abbrev pub decreases-loop-number : goal.decreases-loop-number
decreases-loop-number l = last_number - l.number
