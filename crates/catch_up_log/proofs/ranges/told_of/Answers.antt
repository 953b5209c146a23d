-- One range more is told.
use Rattle.std.proofs.Common.{◌+◌, [], ◌∷◌, List, length, length-append, ap, ◌∙◌}
use Rattle.gone_out.specs.declared.ranges.Range.{Range}
use Rattle.catch_up_log.proofs.Behind.{one_behind}
use Rattle.catch_up_log.proofs.ranges.told_of.Goals as goal

pub loop-preserved : goal.loop-preserved
loop-preserved c =
    let flags = c.args.numbers.now in
    let are = one_behind flags 1 c.loop.ranges.items c.in-Some.range c.range_behind-next.result (rw c.in-Some.is at c.loop.invariant.first) c.range_behind-next.ensures in
    record {
      first = rw c.in_ok-push.ensures.items are;
      count = ap (λ (l : List Range). length l) c.in_ok-push.ensures.items ∙ length-append c.loop.ranges.items (c.in-Some.range ∷ []) ∙ ap (λ k. k + 1) c.loop.invariant.count;
    }
