use Rattle.std.proofs.Common.{◌<◌, ◌≤◌}
use Rattle.reel.specs.Trimming.{AllLeader}
use Rattle.reel.proofs.trimming.trailer_start.Given as goal

abbrev pub invariant-loop-at : goal.invariant-loop-at
invariant-loop-at l = record {
  low : l.fn.piece.from < l.at;
  high : l.at ≤ l.fn.piece.to;
  trailer : AllLeader l.frames l.at l.fn.piece.to;
}

abbrev pub decreases-loop-at : goal.decreases-loop-at
decreases-loop-at l = l.at
