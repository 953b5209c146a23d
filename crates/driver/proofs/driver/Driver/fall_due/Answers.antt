-- What was seen to is one step.
use Rattle.std.proofs.Common.{◌≡◌, inr, refl}
use Rattle.protocol.specs.Refusals.{Falling_due}
use Rattle.wire.proofs.Passing.{Passes-nil}
use Rattle.driver.specs.Driving.{known, fate_of, IsFallingDue, IsSeeingToDue}
use Rattle.driver.proofs.Driven.{always, held, refused, took_none}
use Rattle.driver.proofs.driver.Driver.fall_due.Goals as goal

pub returns-in-Ok-clause-took : goal.returns-in-Ok-clause-took
returns-in-Ok-clause-took g c = record {
  hands = (refl, refl);
  up = λ q.
      let w = c.args.self.now.wire.now in
      let sink = c.args.self.now.sink in
      held (known g.R.Rows g.R.Settles.is_settled g.N.Wire.passed (fate_of g.S.Sink)) g.S.Sink.may g.met.S.Sink.fates (Falling_due c.args.now) (IsFallingDue c.args.now) c.in-Ok.answer
      c.args.self.now.station.now c.due.new.self w w sink sink q refl (g.met.S.Sink.fates.free sink (Falling_due c.args.now) tt)
      (λ kept. c.in-Ok.ensures) (Passes-nil (g.N.Wire.passed w)) (g.met.S.Sink.fates.rests sink) c.in-Ok.ensures.stops;
}

pub returns-in-Err-clause-took : goal.returns-in-Err-clause-took
returns-in-Err-clause-took g c = record {
  hands = (refl, refl);
  up = λ q.
      let w = c.args.self.now.wire.now in
      let sink = c.args.self.now.sink in
      took_none (known g.R.Rows g.R.Settles.is_settled g.N.Wire.passed (fate_of g.S.Sink)) g.S.Sink.may g.met.S.Sink.fates (IsFallingDue c.args.now) (IsSeeingToDue c.args.now) _ _ c.pass_over.result c.no_step.result c.no_step.ensures
      (refused (known g.R.Rows g.R.Settles.is_settled g.N.Wire.passed (fate_of g.S.Sink)) g.S.Sink.may g.met.S.Sink.fates (Falling_due c.args.now) c.in-Err.refusal
      c.args.self.now.station.now c.due.new.self w w sink sink q c.pass_over.result (IsSeeingToDue c.args.now)
      (g.met.S.Sink.fates.free sink (Falling_due c.args.now) tt)
      (g.met.S.Sink.fates.rests sink) (λ kept. c.in-Err.ensures) (Passes-nil (g.N.Wire.passed w)) c.in-Err.ensures.stops
      c.pass_over.ensures.goes_on c.pass_over.ensures.ends (always c.pass_over.result _ (inr (_, refl))));
}
