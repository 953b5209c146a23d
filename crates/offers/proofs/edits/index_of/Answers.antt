use Rattle.std.proofs.Common.{rules, Ok, Err, nat_cmp}
use Rattle.std.proofs.lemmas.Fn.{always_returns_same}
use Rattle.offers.specs.Order.{rank}
use Rattle.offers.proofs.Editing.{searched}
use Rattle.offers.proofs.edits.index_of.Goals as goal

pub returns-in-Ok : goal.returns-in-Ok
returns-in-Ok c =
    let facts = c.in-Ok.ensures in
    let by_place = facts.position (λ o. nat_cmp (rank o.request) c.args.place) (always_returns_same _ _ _ (λ a r f called. search rules)) in
    searched c.args.offers.now c.args.place (Ok c.in-Ok.index) c.requires facts.bound by_place

pub returns-in-Err : goal.returns-in-Err
returns-in-Err c =
    let facts = c.in-Err.ensures in
    let by_place = facts.position (λ o. nat_cmp (rank o.request) c.args.place) (always_returns_same _ _ _ (λ a r f called. search rules)) in
    searched c.args.offers.now c.args.place (Err c.in-Err.field-0) c.requires facts.bound by_place
