use Rattle.std.proofs.Common.{refl}
use Rattle.reel.proofs.Gaps.{Found, cut_more, cut_same}
use Rattle.reel.proofs.cutting.cut_at_gaps.Goals as goal
use Rattle.reel.proofs.cutting.cut_at_gaps.Goals.{then-from-to+in_ok-push, else-from-to}

pub loop-from-preserved : goal.loop-from-preserved
loop-from-preserved c =
    let gap = c.next_gap-to.ensures in
    let end = c.blanks_end-from.ensures in
    let inside = c.loop-from-test.true in
    let found : Found c.args.least c.args.frames.now c.loop-from.from c.next_gap-to.result c.blanks_end-from.result = record {
      some = c.requires;
      from_to = gap.within.0;
      to_end = end.within.0;
      high = end.within.1;
      none = gap.none;
      gap = gap.gap;
      blank = end.blank;
      filled = end.filled;
    } in
    elim c.if-from-to.branch [
      | then-from-to+in_ok-push w ↦
          rw (w.pieces-is, w.in_ok-push.ensures.items)
          (cut_more c.args.least c.args.frames.now c.loop-from.pieces.items c.loop-from.from c.next_gap-to.result c.blanks_end-from.result
          (record { from = c.loop-from.from; to = c.next_gap-to.result }) c.loop-from.invariant inside found refl refl w.if-from-to.true)
      | else-from-to w ↦
          rw w.pieces-is
          (cut_same c.args.least c.args.frames.now c.loop-from.pieces.items c.loop-from.from c.next_gap-to.result c.blanks_end-from.result c.loop-from.invariant
          inside found w.if-from-to.false)
    ]
