use Rattle.std.proofs.Common.{◌<◌, ◌≤◌, ◌-◌, ℕ, length}
use Rattle.reel.specs.Pieces.{IsGap}
use Rattle.reel.proofs.cutting.next_gap.Given as goal

abbrev pub invariant-loop-at : goal.invariant-loop-at
invariant-loop-at l = record {
  low : l.from ≤ l.at;
  high : l.at ≤ length l.frames;
  none : (k : ℕ) → l.from ≤ k → k < l.at → ¬ (IsGap l.least l.frames k);
}

abbrev pub decreases-loop-at : goal.decreases-loop-at
decreases-loop-at l = length l.frames - l.at
