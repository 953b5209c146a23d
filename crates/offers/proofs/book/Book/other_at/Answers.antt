use Rattle.std.proofs.Common.{sym}
use Rattle.offers.proofs.Doing.{may_other}
use Rattle.offers.proofs.book.Book.other_at.Goals as goal

pub returns-clause-some : goal.returns-clause-some
returns-clause-some c = rw (sym c.self.view_is) (may_other _ c.args.index c.index.result.now c.other.result (rw (sym c.self.view_is) at c.requires) c.index.ensures c.other.ensures.some)
