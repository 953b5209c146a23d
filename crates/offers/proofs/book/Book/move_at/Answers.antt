use Rattle.std.proofs.Common.{sym}
use Rattle.offers.proofs.Doing.{may_leave, no_move}
use Rattle.offers.proofs.book.Book.move_at.Goals as goal

pub returns-clause-some : goal.returns-clause-some
returns-clause-some c = rw (sym c.self.view_is) (may_leave _ c.args.index c.index.result.now c.leaving.result (rw (sym c.self.view_is) at c.requires) c.index.ensures c.leaving.ensures.some)

pub returns-clause-none : goal.returns-clause-none
returns-clause-none c = λ none.
    no_move c.args.self.now c.args.index c.index.result.now c.requires (rw (sym c.self.view_is) c.index.ensures)
    (rw (sym c.self.view_is) (c.leaving.ensures.none none))
