-- A station is asked: done, refused or torn. Without memory for the copy or the logs it is not.
use Rattle.std.proofs.Common.{◌∙◌, ap}
use Rattle.world.specs.Taking.{call_of, step_of}
use Rattle.world.proofs.Asking.{call_brings, call_missing, changed_in, no_room, stepped}
use Rattle.world.proofs.world.World.ask.Goals as goal

pub returns-in_err-make_room : goal.returns-in_err-make_room
returns-in_err-make_room g c =
    no_room g.R.Rows (step_of c.args.member c.args.call) c.args.self.now c.make_room.new.self _ _ c.from_residual-in_err-make_room.ensures c.in_err-make_room.ensures.refused
    c.make_room.ensures.same (call_missing c.args.self.now c.args.member c.args.call ∙ c.in_ok-place.ensures.found)

pub returns : goal.returns
returns g c =
    let v = c.args.self.now in
    let v1 = c.make_room.new.self in
    let v' = c.log_answer.new.self in
    let s = c.index_mut.result.now in
    let s' = c.ask-answer.new.station in
    let o = c.in_ok-place.ensures in
    let same = c.make_room.ensures.same in
    let t = c.log_answer.ensures in
    let e = c.ask-answer.ensures in
    let ch = changed_in v v1 v' c.in_ok-place.place c.args.member s s' same o.place o.within c.index_mut.ensures.value (ap (λ q. q.items) t.stations) in
    let offers = ap (λ q. q.items) t.offers ∙ (rw c.in-Ok.ensures at c.log_offer.ensures) in
    stepped g.R.Rows v v1 v' (step_of c.args.member c.args.call) c.in_ok-place.place c.args.member (call_of c.args.call) s s' c.ask-answer.result c.log_answer.result
    (call_brings v c.args.member c.args.call o.found) same ch t.sent offers t.releases t.seen c.one_setting.ensures
    (record { steps = e.steps; was_kept = e.was_kept; made = e.made; blames = e.blames; version = e.version; wire = e.wire })
