use Rattle.std.proofs.Common.{sym}
use Rattle.offers.proofs.Airborne.{few_asked}
use Rattle.offers.proofs.book.Book.under_way.Goals as goal

pub returns-clause-files : goal.returns-clause-files
returns-clause-files c = rw (sym c.self.view_is, c.len.ensures) (few_asked 0 c.self.inside.offers.items c.self.inside.known.window c.self.invariant.rises c.self.invariant.held c.self.invariant.alone)
