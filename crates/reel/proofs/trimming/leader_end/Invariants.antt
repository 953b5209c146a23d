use Rattle.std.proofs.Common.{◌≤◌, ◌-◌}
use Rattle.reel.specs.Trimming.{AllLeader}
use Rattle.reel.proofs.trimming.leader_end.Given as goal

abbrev pub invariant-loop-at : goal.invariant-loop-at
invariant-loop-at l = record {
  low : l.piece.from ≤ l.at;
  high : l.at ≤ l.piece.to;
  leader : AllLeader l.frames l.piece.from l.at;
}

abbrev pub decreases-loop-at : goal.decreases-loop-at
decreases-loop-at l = l.piece.to - l.at
