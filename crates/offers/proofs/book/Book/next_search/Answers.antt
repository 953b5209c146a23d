use Rattle.std.proofs.Common.{◌≡◌, length, rules, sym}
use Rattle.offers.proofs.Places.{found_search}
use Rattle.offers.proofs.book.Book.next_search.Goals as goal

pub returns-clause-some : goal.returns-clause-some
returns-clause-some c =
    let many : c.len.result ≡ length c.self.inside.offers.items = search rules in
    rw (sym c.self.view_is) (found_search _ c.self.inside.marks c.next.result c.self.invariant.marked (rw (c.saturating_sub-from.ensures, many) at c.next.ensures.some))
