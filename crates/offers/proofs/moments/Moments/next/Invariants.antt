-- There is none so far.
use Rattle.std.proofs.Common.{◌≤◌, ◌-◌, length}
use Rattle.offers.specs.Moments.{NoneIn}
use Rattle.offers.proofs.moments.Moments.next.Given as goal

abbrev pub invariant-loop-index : goal.invariant-loop-index
invariant-loop-index l = record {
  from : l.from ≤ l.index;
  none : NoneIn l.self l.from l.index;
}

abbrev pub decreases-loop-index : goal.decreases-loop-index
decreases-loop-index l = length l.self - l.index
