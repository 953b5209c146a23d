-- What was asked for a file is one step.
use Rattle.std.proofs.Common.{◌≡◌, inl, inr, refl}
use Rattle.command_ends.specs.declared.end.End.TheVariants.{Done}
use Rattle.driver.specs.Events.{ended}
use Rattle.wire.proofs.Passing.{Passes-nil}
use Rattle.driver.specs.Calls.{call_of}
use Rattle.driver.specs.Driving.{known, fate_of, post_behind, sends_of}
use Rattle.driver.specs.Todos.{IsAskingFor}
use Rattle.driver.proofs.Driven.{always, asked_passes, nothing_behind, noted, refused}
use Rattle.driver.proofs.driver.Driver.ask_for.Goals as goal

pub returns-in-Done : goal.returns-in-Done
returns-in-Done g c =
    let call = call_of c.in-Done.ensures.0 c.args.now in
    let wire = c.args.self.now.wire.now in
    let sink = c.args.self.now.sink in
    let k = known g.R.Rows g.R.Settles.is_settled g.N.Wire.passed (fate_of g.S.Sink) in
    record {
      hands = (refl, refl);
      done = noted k g.S.Sink.may g.met.S.Sink.fates call c.in-Done.answer c.args.self.now.station.now c.ask_by.new.station wire wire sink sink c.hold.new.desk
          (sends_of c.args.group.now) (sends_of c.hold.new.self) c.hold.result (IsAskingFor c.args.now)
          (g.met.S.Sink.fates.rests sink) c.in-Done.ensures.1 (λ kept. c.in-Done.ensures.2) (asked_passes c.in-Done.ensures.0 c.args.now (g.N.Wire.passed wire))
          c.hold.ensures.holds c.in-Done.ensures.2.stops (inr (c.in-Done.ensures.0, _, refl));
    }

pub returns-in-Refused : goal.returns-in-Refused
returns-in-Refused g c =
    let call = c.in-Refused.ensures.0 in
    let wire = c.args.self.now.wire.now in
    record {
      hands = (refl, refl);
      done = refused (known g.R.Rows g.R.Settles.is_settled g.N.Wire.passed (fate_of g.S.Sink)) g.S.Sink.may g.met.S.Sink.fates (call_of call c.args.now) c.in-Refused.refusal
          c.args.self.now.station.now c.ask_by.new.station wire wire c.args.self.now.sink c.deny.new.self (sends_of c.args.group.now) c.pass_over.result (IsAskingFor c.args.now)
          c.in-Refused.ensures.1 c.deny.ensures (λ kept. c.in-Refused.ensures.2) (asked_passes call c.args.now (g.N.Wire.passed wire)) c.in-Refused.ensures.2.stops
          c.pass_over.ensures.goes_on c.pass_over.ensures.ends (always c.pass_over.result _ (inr (call, _, refl)));
    }

pub returns-in-Unknown : goal.returns-in-Unknown
returns-in-Unknown g c =
    let s = c.args.self.now.station.now in
    let wire = c.args.self.now.wire.now in
    let same : c.ask_by.new.station ≡ s = c.in-Unknown.ensures in
    record { hands = (refl, refl); done = rw same (nothing_behind (known g.R.Rows g.R.Settles.is_settled g.N.Wire.passed (fate_of g.S.Sink)) g.S.Sink.may g.met.S.Sink.fates s wire wire c.args.self.now.sink (sends_of c.args.group.now) Done (IsAskingFor c.args.now) (Passes-nil (g.N.Wire.passed wire)) (λ done. inl refl) refl) }
