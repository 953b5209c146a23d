use Rattle.std.proofs.Common.{◌-◌, length}
use Rattle.reel.proofs.Gaps.{CutBefore}
use Rattle.reel.proofs.cutting.cut_at_gaps.Given as goal

abbrev pub invariant-loop-from : goal.invariant-loop-from
invariant-loop-from l = CutBefore l.least l.frames l.pieces.items l.from

abbrev pub decreases-loop-from : goal.decreases-loop-from
decreases-loop-from l = length l.frames - l.from
