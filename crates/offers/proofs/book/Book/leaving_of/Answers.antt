use Rattle.std.proofs.Common.{sym}
use Rattle.std.specs.Prelude.{Option, Some, None, IfSome}
use Rattle.offers.specs.declared.deed.Deed.{Deed}
use Rattle.offers.specs.Choices.{MayMoveBy}
use Rattle.offers.specs.Rules.{Standing, MayDo}
use Rattle.offers.specs.Order.{rank, IsPlaceOf, Rises}
use Rattle.offers.proofs.Doing.{has_left}
use Rattle.offers.proofs.book.Book.leaving_of.Goals as goal

-- a move is something that the rules let be done
may_do : (b : Standing) (deed : Option Deed) → IfSome deed (MayMoveBy b) → IfSome deed (MayDo b)
may_do b None may = tt
may_do b (Some deed) may = may.0

pub returns-in-Some : goal.returns-in-Some
returns-in-Some c = record {
  rules = may_do c.args.self.now c.move_at.result c.move_at.ensures.some;
  none = λ none.
      let there : IsPlaceOf c.self.inside.offers.items (rank c.args.request) c.in-Some.index = rw (sym c.rank.ensures.rank, sym c.as_slice.ensures.value) c.in-Some.ensures in
      let rises : Rises c.args.self.now.files = rw (sym c.self.view_is) c.self.invariant.rises in
      has_left c.args.self.now c.args.request c.in-Some.index rises (rw (sym c.self.view_is) there) (c.move_at.ensures.none none);
}
