use Rattle.std.proofs.Common.{◌≡◌, ◌≤◌, ◌<◌, ◌+◌, ◌*◌, ◌/◌, ◌∙◌, None, length, get_or, sym, arith}
use Rattle.std.proofs.lemmas.List.{get_or_default}
use Rattle.offers.specs.Moments.{MatchIn}
use Rattle.offers.proofs.Blocks.{put_in, set_block}
use Rattle.offers.proofs.moments.Moments.put.Goals as goal

pub invariant_of-self : goal.invariant_of-self
invariant_of-self c =
    let moments = c.self.inside.each.items in
    let blocks = c.self.inside.blocks.items in
    let k = c.args.index / 256 in
    let x = c.index.result.now in
    let inside = rw (sym c.self.view_is) at c.requires.within in
    let none = rw (sym c.self.view_is) at c.requires.none in
    let above : 256 * (c.args.index / 256) ≤ c.args.index = omega arith in
    let below : c.args.index < 256 * (c.args.index / 256) + 256 = omega arith in
    let within : c.args.index / 256 < length blocks = omega (arith, c.self.invariant.cover, inside) in
    let x_is : x ≡ get_or blocks k None = c.index.ensures ∙ get_or_default blocks k x None within in
    let h : MatchIn moments (256 * k) (256 * k + 256) x = rw x_is (c.self.invariant.each k) in
    set_block moments blocks c.args.index k c.args.moment c.sooner.result c.self.invariant inside above below (rw c.sooner.ensures (put_in moments (256 * k) (256 * k + 256) c.args.index c.args.moment x inside above below none h))
