-- The address of one member more, where there is one.
use Rattle.std.proofs.Common.{◌∙◌, sym}
use Rattle.configuration.specs.Stations.{in_order}
use Rattle.configuration.proofs.Order.{at_start, after_some, after_none}
use Rattle.configuration.proofs.stations.in_order.Goals as goal
use Rattle.configuration.proofs.stations.in_order.Goals.{in-Some+in_ok-push, in_default}

pub loop-index-init : goal.loop-index-init
loop-index-init c = at_start c.args.addresses.now c.in_ok-stations.stations.items c.in_ok-stations.ensures.items

pub loop-index-preserved : goal.loop-index-preserved
loop-index-preserved c = elim c.match-address_among.branch [
  | in-Some+in_ok-push w ↦
      let found = sym c.address_among.ensures ∙ w.in-Some.is in
      rw (w.stations-is, w.in_ok-push.ensures.items) (after_some c.args.addresses.now c.loop-index.stations.items (in_order c.args.addresses.now) c.loop-index.index w.in-Some.address c.loop-index-test.true found c.loop-index.invariant)
  | in_default w ↦
      let none = sym c.address_among.ensures ∙ w.in_default.is in
      rw w.stations-is (after_none c.args.addresses.now c.loop-index.stations.items (in_order c.args.addresses.now) c.loop-index.index c.loop-index-test.true none c.loop-index.invariant)
]
