-- A delivery: done, refused or torn.
use Rattle.std.proofs.Common.{◌∙◌, ℕ, List, sym, ap, subst, append-nil}
use Rattle.protocol.specs.Refusals.{Receiving}
use Rattle.world.specs.declared.step.Step.TheVariants as steps
use Rattle.world.proofs.Asking.{Brings, addressed, changed_in, deliver_brings, no_room, stepped}
use Rattle.world.proofs.world.World.deliver.Goals as goal

pub returns-in_err-make_room : goal.returns-in_err-make_room
returns-in_err-make_room g c =
    no_room g.R.Rows (steps.Deliver c.args.k c.args.now) c.args.self.now c.make_room.new.self _ _ c.from_residual-in_err-make_room.ensures c.in_err-make_room.ensures.refused
    c.make_room.ensures.same (addressed _ _ _ c.in_ok-member.ensures.found c.in_ok-place.ensures.found)

pub returns : goal.returns
returns g c =
    let v = c.args.self.now in
    let v1 = c.make_room.new.self in
    let v' = c.log_answer.new.self in
    let s = c.index_mut.result.now in
    let s' = c.receive-step.new.self in
    let o = c.in_ok-place.ensures in
    let same = c.make_room.ensures.same in
    let t = c.log_answer.ensures in
    let e = c.receive-step.ensures in
    let a = c.in_ok-member.ensures in
    let brings =
    subst (λ (b : List ℕ). Brings v (steps.Deliver c.args.k c.args.now) c.in_ok-member.member (Receiving b c.args.now)) (sym c.bytes.ensures)
    (deliver_brings v v1 c.args.k c.in_ok-member.member c.args.now c.index-datagram.result.now same a.low a.high c.index-datagram.ensures a.found o.found) in
    let ch = changed_in v v1 v' c.in_ok-place.place c.in_ok-member.member s s' same o.place o.within c.index_mut.ensures.value (ap (λ q. q.items) t.stations) in
    let offers = ap (λ q. q.items) t.offers ∙ sym (append-nil v1.offers.items) in
    stepped g.R.Rows v v1 v' (steps.Deliver c.args.k c.args.now) c.in_ok-place.place c.in_ok-member.member (Receiving c.bytes.result.now c.args.now) s s' c.receive-step.result c.log_answer.result
    brings same ch t.sent offers t.releases t.seen c.one_setting.ensures
    (record { steps = e.steps; was_kept = e.was_kept; made = e.made; blames = e.blames; version = e.version; wire = e.wire })
