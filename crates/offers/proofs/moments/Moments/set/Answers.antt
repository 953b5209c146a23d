use Rattle.std.proofs.Common.{◌≤◌, ◌<◌, ◌+◌, ◌*◌, ◌/◌, sym, arith}
use Rattle.offers.proofs.Blocks.{set_block}
use Rattle.offers.proofs.moments.Moments.set.Goals as goal

pub invariant_of-self : goal.invariant_of-self
invariant_of-self c =
    let k = c.args.index / 256 in
    let inside = rw (sym c.self.view_is) at c.requires in
    let above : 256 * (c.args.index / 256) ≤ c.args.index = omega arith in
    let below : c.args.index < 256 * (c.args.index / 256) + 256 = omega arith in
    let first = rw c.as_slice.ensures.value at c.first_of-first.ensures in
    set_block c.self.inside.each.items c.self.inside.blocks.items c.args.index k c.args.moment c.first_of-first.result c.self.invariant inside above below first
