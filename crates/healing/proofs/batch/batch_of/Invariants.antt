-- The numbers so far rise, and are due.
use Rattle.std.proofs.Common.{◌≤◌, length}
use Rattle.healing.specs.Lists.{Rise}
use Rattle.healing.specs.Healing.{AreDueIn}
use Rattle.healing.proofs.OneMore.{Ends}
use Rattle.healing.proofs.batch.batch_of.Given as goal

abbrev pub invariant-loop-number : goal.invariant-loop-number
invariant-loop-number l = record {
  few : length l.rising.items ≤ l.number-index;
  rise : Rise 0 l.rising.items;
  ends : Ends 0 l.rising.items l.above;
  due : AreDueIn l.cases.entries l.now l.rising.items;
}
