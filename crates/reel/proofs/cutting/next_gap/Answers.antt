use Rattle.std.proofs.Common.{arith, inl, inr}
use Rattle.std.proofs.lemmas.Bool.{cases_lt}
use Rattle.reel.proofs.Gaps.{no_gap_in_few}
use Rattle.reel.proofs.cutting.next_gap.Goals as goal

pub loop-at-preserved-then-end-frames : goal.loop-at-preserved-then-end-frames
loop-at-preserved-then-end-frames c =
    let found = c.blanks_end-end.ensures in
    let was = c.loop-at.invariant in
    record {
      low = omega (arith, was.low, found.within);
      high = omega (arith, c.if-end-frames.true);
      none = λ k low less gap.
          elim (cases_lt k c.loop-at.at) [
            | inl before ↦ was.none k low before gap
            | inr behind ↦
                no_gap_in_few c.args.least c.args.frames.now c.loop-at.at c.blanks_end-end.result k behind (omega (arith, less))
                (omega (arith, c.if-end-at.false, found.within)) found.blank found.filled gap
          ];
    }

pub loop-at-preserved : goal.loop-at-preserved
loop-at-preserved c =
    let found = c.blanks_end-end.ensures in
    let was = c.loop-at.invariant in
    record {
      low = omega (arith, was.low, found.within);
      high = omega (arith, found.within);
      none = λ k low less gap.
          elim (cases_lt k c.loop-at.at) [
            | inl before ↦ was.none k low before gap
            | inr behind ↦
                no_gap_in_few c.args.least c.args.frames.now c.loop-at.at c.blanks_end-end.result k behind (omega (arith, less))
                (omega (arith, c.if-end-at.false, found.within)) found.blank found.filled gap
          ];
    }
