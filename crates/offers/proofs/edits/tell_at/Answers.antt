use Rattle.std.proofs.Common.{◌≡◌, get_or}
use Rattle.offers.specs.Order.{rank}
use Rattle.offers.specs.Stages.{after}
use Rattle.offers.proofs.Editing.{set_is}
use Rattle.offers.proofs.edits.tell_at.Goals as goal

pub returns : goal.returns
returns c = λ place there.
    let files = c.args.offers.now.items in
    let o = c.index_mut-offer.result.now in
    let here = set_is 0 (after c.args.news c.args.now) files c.args.index o c.requires.rises c.requires.within in
    let is : o ≡ get_or files c.args.index o = c.index_mut-offer.ensures.value in
    let placed : rank (get_or files c.args.index o).request ≡ place = there.is o in
    cc
