-- What was taken up is handed on.
use Rattle.std.proofs.Common.{[], Ok, ap}
use Rattle.driver.specs.Driving.{known, fate_of, post_of, IsReceiving, IsTakingIn}
use Rattle.driver.proofs.Driven.{handed, hands_then, received, took_one, took_no_more}
use Rattle.driver.proofs.driver.Driver.receive.Goals as goal

pub returns-in-Ok-Some : goal.returns-in-Ok-Some
returns-in-Ok-Some g c =
    let k = known g.R.Rows g.R.Settles.is_settled g.N.Wire.passed (fate_of g.S.Sink) in
    let old = c.args.self.now in
    let mid = c.receive_next.new.self in
    let new = c.hand_on.new.self in
    let step = c.in-Ok-Some.step in
    let held = took_one k g.S.Sink.may g.met.S.Sink.fates (IsReceiving c.args.now) (IsTakingIn c.args.now) (post_of old) (post_of mid) (Ok c.in-Ok-Some.field-0) step (ap Ok c.in-Ok-Some.field-0-is) (c.in-Ok-Some.ensures.took.up []) in
    record {
      hands = hands_then old mid new c.in-Ok-Some.ensures.took.hands c.hand_on.ensures.hands;
      done = handed k g.S.Sink.may g.met.S.Sink.fates (IsReceiving c.args.now) step.answer old.station.now mid.station.now new.station.now old.wire.now mid.wire.now new.wire.now
          old.sink mid.sink new.sink c.hand_on.result (IsTakingIn c.args.now) held c.hand_on.ensures.on (received c.args.now step.answer);
    }

pub returns-in-Ok-None : goal.returns-in-Ok-None
returns-in-Ok-None g c =
    record {
      hands = c.in-Ok-None.ensures.took.hands;
      done = took_no_more (known g.R.Rows g.R.Settles.is_settled g.N.Wire.passed (fate_of g.S.Sink)) g.S.Sink.may g.met.S.Sink.fates (IsReceiving c.args.now) (IsTakingIn c.args.now) (post_of c.args.self.now) (post_of c.receive_next.new.self) (Ok c.in-Ok-None.field-0) (ap Ok c.in-Ok-None.field-0-is)
          (c.in-Ok-None.ensures.took.up []);
    }

pub returns-in-Err : goal.returns-in-Err
returns-in-Err g c = record { hands = c.in-Err.ensures.took.hands; done = c.in-Err.ensures.took.up [] }
