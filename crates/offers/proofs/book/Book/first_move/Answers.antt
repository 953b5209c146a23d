use Rattle.std.proofs.Common.{refl, sym}
use Rattle.offers.specs.Marks.{IsMarked}
use Rattle.offers.proofs.Marking.{is_move, move_before}
use Rattle.offers.proofs.book.Book.first_move.Goals as goal

pub returns-in-None-move_at-clause-none : goal.returns-in-None-move_at-clause-none
returns-in-None-move_at-clause-none c = λ none.
    let marked : IsMarked c.args.self.now c.self.inside.marks = rw (sym c.self.view_is) c.self.invariant.marked in
    absurd (is_move c.args.self.now c.self.inside.marks c.in-Some.index marked c.in-Some.ensures.some.2 (c.in-None-move_at.ensures.none refl))

pub returns-in-Some-move_at-clause-before : goal.returns-in-Some-move_at-clause-before
returns-in-Some-move_at-clause-before c = rw (sym c.self.view_is) (move_before _ c.self.inside.marks _ c.in-Some.index c.self.invariant.marked c.in-Some.ensures.some.2 c.in-Some.ensures.before)
