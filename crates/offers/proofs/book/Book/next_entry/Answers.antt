use Rattle.std.proofs.Common.{sym}
use Rattle.offers.proofs.Places.{found_entry, found_before_entry, no_entry}
use Rattle.offers.proofs.book.Book.next_entry.Goals as goal

pub returns-clause-some : goal.returns-clause-some
returns-clause-some c = rw (sym c.self.view_is) (found_entry _ c.self.inside.marks c.next.result c.self.invariant.marked c.next.ensures.some)

pub returns-clause-before : goal.returns-clause-before
returns-clause-before c = rw (sym c.self.view_is) (found_before_entry _ c.self.inside.marks c.next.result c.self.invariant.marked c.next.ensures.some c.next.ensures.before)

pub returns-clause-none : goal.returns-clause-none
returns-clause-none c = λ none. rw (sym c.self.view_is) (no_entry _ c.self.inside.marks _ c.self.invariant.marked (c.next.ensures.none none))
