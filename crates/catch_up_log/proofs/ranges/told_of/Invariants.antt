-- The ranges so far are the first of the set, and behind them comes the next.
use Rattle.std.proofs.Common.{◌≡◌, length}
use Rattle.catch_up_log.specs.Ranges.{AreFrom}
use Rattle.catch_up_log.proofs.ranges.told_of.Given as goal

abbrev pub invariant-loop : goal.invariant-loop
invariant-loop l = record { first : AreFrom l.numbers 1 l.ranges.items l.next; count : length l.ranges.items ≡ l.counter }
