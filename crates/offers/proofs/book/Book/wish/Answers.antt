use Rattle.std.proofs.Common.{◌≡◌, ◌∙◌, Some, sym, ap}
use Rattle.offers.specs.Order.{rank, file_at, IsPlaceOf}
use Rattle.offers.proofs.Editing.{file_is}
use Rattle.offers.proofs.book.Book.wish.Goals as goal

pub returns-in-Some : goal.returns-in-Some
returns-in-Some c =
    let files = c.self.inside.offers.items in
    let o = c.index.result.now in
    let there : IsPlaceOf files c.rank.result c.in-Some.index = rw (sym c.as_slice.ensures.value) c.in-Some.ensures in
    let found = file_is 0 files c.in-Some.index o c.rank.result c.self.invariant.rises there.within (there.is o) in
    let at_request : file_at files (rank c.args.request) ≡ Some o = rw (sym c.rank.ensures.rank) (found ∙ ap Some (sym c.index.ensures)) in
    rw (sym c.self.view_is, at_request) c.wish.ensures
