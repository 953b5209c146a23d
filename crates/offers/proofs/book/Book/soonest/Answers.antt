use Rattle.std.proofs.Common.{◌≡◌, nat_le, refl, sym}
use Rattle.offers.specs.Asks.{is_search_turn}
use Rattle.offers.proofs.Choosing.{first_found, second_found}
use Rattle.offers.proofs.book.Book.soonest.Goals as goal

pub returns-in-Some : goal.returns-in-Some
returns-in-Some c =
    let turn : nat_le 8 c.self.inside.since_search ≡ is_search_turn c.args.self.now = rw (sym c.self.view_is) refl in
    first_found c.args.self.now _ c.in-Some.first turn (rw (sym c.self.view_is) c.self.invariant.rises) c.in-Some.ensures

pub returns-in-None : goal.returns-in-None
returns-in-None c =
    let turn : nat_le 8 c.self.inside.since_search ≡ is_search_turn c.args.self.now = rw (sym c.self.view_is) refl in
    second_found c.args.self.now _ c.soonest_of-in-None.result turn (rw (sym c.self.view_is) c.self.invariant.rises) c.in-None.ensures c.soonest_of-in-None.ensures
