-- The clock was asked, and then the station, in one step.
use Rattle.std.proofs.Common.{◌≡◌, [], refl}
use Rattle.protocol.specs.Refusals.{Call as StationCall}
use Rattle.driver.specs.Events.{ended}
use Rattle.driver.proofs.Stretches.{ends_badly}
use Rattle.driver.specs.Calls.{call_of, IsAsked}
use Rattle.driver.specs.Driving.{known, fate_of, post, post_of, AtClock, Anyhow}
use Rattle.driver.proofs.Driven.{asked_passes, held, handed, was_asked, denied, clocked, of_form}
use Rattle.driver.proofs.driver.Driver.ask.Goals as goal

pub returns-in-Ok : goal.returns-in-Ok
returns-in-Ok g c =
    let k = known g.R.Rows g.R.Settles.is_settled g.N.Wire.passed (fate_of g.S.Sink) in
    let now = c.now-now.result in
    let wire = c.now-now.new.self in
    let sink = c.args.self.now.sink in
    let s = c.args.self.now.station.now in
    let mid = c.ask.new.station in
    let new = c.hand_on.new.self in
    let call = call_of c.args.call now in
    let Kind = λ (x : StationCall). x ≡ call in
    record {
      hands = c.hand_on.ensures.hands;
      done = clocked k g.S.Sink.may g.met.S.Sink.fates s c.args.self.now.wire.now wire sink [] (post_of new) now (ended c.hand_on.result) (IsAsked c.args.call) c.now-now.ensures.passes
          (handed k g.S.Sink.may g.met.S.Sink.fates Kind c.in-Ok.answer s mid new.station.now wire wire new.wire.now sink sink new.sink c.hand_on.result (IsAsked c.args.call now)
          (held k g.S.Sink.may g.met.S.Sink.fates call Kind c.in-Ok.answer s mid wire wire sink sink [] refl (g.met.S.Outlet.free sink call) (λ kept. c.in-Ok.ensures) (asked_passes c.args.call now (g.N.Wire.passed wire))
          (g.met.S.Sink.fates.rests sink) c.in-Ok.ensures.stops)
          c.hand_on.ensures.on (was_asked c.args.call now c.in-Ok.answer));
    }

pub returns-in-Err : goal.returns-in-Err
returns-in-Err g c =
    let k = known g.R.Rows g.R.Settles.is_settled g.N.Wire.passed (fate_of g.S.Sink) in
    let now = c.now-now.result in
    let wire = c.now-now.new.self in
    let sink = c.args.self.now.sink in
    let s = c.args.self.now.station.now in
    let new = post c.ask.new.station wire sink in
    record {
      hands = (refl, refl);
      done = of_form k (post s c.args.self.now.wire.now sink) new _ (AtClock (λ now. Anyhow)) (AtClock (IsAsked c.args.call)) (λ log done form. absurd (ends_badly c.of_step.result done))
          (clocked k g.S.Sink.may g.met.S.Sink.fates s c.args.self.now.wire.now wire sink [] new now _ (λ now. Anyhow) c.now-now.ensures.passes
          (denied k g.S.Sink.may g.met.S.Sink.fates (call_of c.args.call now) c.in-Err.refusal s c.ask.new.station wire sink c.of_step.result Anyhow
          (g.met.S.Outlet.free sink (call_of c.args.call now)) (λ kept. c.in-Err.ensures) (asked_passes c.args.call now (g.N.Wire.passed wire)) c.in-Err.ensures.stops c.of_step.ensures));
    }
