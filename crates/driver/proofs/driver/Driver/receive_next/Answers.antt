-- What came is taken up by one step, or beside the station.
use Rattle.std.proofs.Common.{◌≡◌, ℕ, Option, None, inl, inr, refl, subst, ◌∙◌}
use Rattle.protocol.specs.Refusals.{Receiving}
use Rattle.command_ends.specs.declared.end.End.TheVariants as ends
use Rattle.driver.specs.Driving.{known, fate_of, IsReceiving, IsTakingIn}
use Rattle.driver.proofs.Driven.{always, socket_ends_badly, rested, held, refused, passed_by, took_none}
use Rattle.driver.specs.TakingIn.{paced_by}
use Rattle.driver.specs.declared.pacing.Pacing.{Pacing}
use Rattle.driver.specs.declared.said.Said.{Said}
use Rattle.driver.specs.declared.taking_in.Received.TheVariants.{Nothing, Failed, Beside, Taken, Refused}
use Rattle.driver.proofs.driver.Driver.receive_next.Goals as goal

-- the pace that heard what is said heard what an equal thing says
paced_so : (p new : Pacing) (now : ℕ) (s t : Option Said) → s ≡ t → new ≡ paced_by s now p → new ≡ paced_by t now p
paced_so p new now s t e h = subst (λ (x : Option Said). new ≡ paced_by x now p) e h

pub returns-in-Nothing-clause-took : goal.returns-in-Nothing-clause-took
returns-in-Nothing-clause-took g c = record {
  hands = (refl, refl);
  up = λ q.
      rested (known g.R.Rows g.R.Settles.is_settled g.N.Wire.passed (fate_of g.S.Sink)) g.S.Sink.may g.met.S.Sink.fates c.args.self.now.station.now c.take_datagram.new.station c.args.self.now.wire.now c.take_datagram.new.wire
      c.args.self.now.sink q ends.Done (IsTakingIn c.args.now) c.in-Nothing.ensures (λ done. inl refl) refl;
}

pub returns-in-Failed-clause-took : goal.returns-in-Failed-clause-took
returns-in-Failed-clause-took g c = record {
  hands = (refl, refl);
  up = λ q.
      rested (known g.R.Rows g.R.Settles.is_settled g.N.Wire.passed (fate_of g.S.Sink)) g.S.Sink.may g.met.S.Sink.fates c.args.self.now.station.now c.take_datagram.new.station c.args.self.now.wire.now c.take_datagram.new.wire
      c.args.self.now.sink q ends.Socket (IsTakingIn c.args.now) c.in-Failed.ensures (λ done. absurd (socket_ends_badly done)) refl;
}

pub returns-in-Taken-clause-took : goal.returns-in-Taken-clause-took
returns-in-Taken-clause-took g c = record {
  hands = (refl, refl);
  up = λ q.
      let bytes = c.in-Taken.bytes.items in
      let came = c.in-Taken.ensures in
      let u = c.hear-in-Taken.new.self in
      held (known g.R.Rows g.R.Settles.is_settled g.N.Wire.passed (fate_of g.S.Sink)) g.S.Sink.may g.met.S.Sink.fates (Receiving bytes c.args.now) (IsReceiving c.args.now) c.in-Taken.answer
      c.args.self.now.station.now c.take_datagram.new.station c.args.self.now.wire.now c.take_datagram.new.wire c.args.self.now.sink u q
      (bytes, refl) (g.met.S.Sink.fates.free u (Receiving bytes c.args.now) tt) (λ kept. came.step) came.passes c.hear-in-Taken.ensures came.step.stops;
}

pub returns-in-Refused-clause-took : goal.returns-in-Refused-clause-took
returns-in-Refused-clause-took g c = record {
  hands = (refl, refl);
  up = λ q.
      let bytes = c.in-Refused.bytes.items in
      let came = c.in-Refused.ensures in
      took_none (known g.R.Rows g.R.Settles.is_settled g.N.Wire.passed (fate_of g.S.Sink)) g.S.Sink.may g.met.S.Sink.fates (IsReceiving c.args.now) (IsTakingIn c.args.now) _ _ c.pass_over.result c.no_step.result c.no_step.ensures
      (refused (known g.R.Rows g.R.Settles.is_settled g.N.Wire.passed (fate_of g.S.Sink)) g.S.Sink.may g.met.S.Sink.fates (Receiving bytes c.args.now) c.in-Refused.refusal
      c.args.self.now.station.now c.take_datagram.new.station c.args.self.now.wire.now c.take_datagram.new.wire c.args.self.now.sink c.hear-in-Refused-2.new.self q c.pass_over.result
      (IsTakingIn c.args.now) (g.met.S.Sink.fates.free c.args.self.now.sink (Receiving bytes c.args.now) tt)
      c.hear-in-Refused-2.ensures (λ kept. came.step) came.passes came.step.stops c.pass_over.ensures.goes_on c.pass_over.ensures.ends
      (always c.pass_over.result _ (inr (inl (bytes, inr (_, refl))))));
}

pub returns-in-Beside-clause-took : goal.returns-in-Beside-clause-took
returns-in-Beside-clause-took g c = record {
  hands = (refl, refl);
  up = λ q.
      let came = c.in-Beside.ensures in
      passed_by (known g.R.Rows g.R.Settles.is_settled g.N.Wire.passed (fate_of g.S.Sink)) g.S.Sink.may g.met.S.Sink.fates came.rest c.args.self.now.station.now c.take_datagram.new.station
      c.args.self.now.wire.now c.take_datagram.new.wire c.args.self.now.sink c.hear-in-Beside-2.new.self q (IsTakingIn c.args.now)
      came.same came.passes c.hear-in-Beside-2.ensures (inr (inr (_, refl)));
}

pub returns-in-Nothing-clause-hears : goal.returns-in-Nothing-clause-hears
returns-in-Nothing-clause-hears g c = record { received = Nothing; came = c.in-Nothing.ensures; is_heard = (refl, refl) }

pub returns-in-Failed-clause-hears : goal.returns-in-Failed-clause-hears
returns-in-Failed-clause-hears g c = record { received = Failed; came = c.in-Failed.ensures; is_heard = (refl, refl) }

pub returns-in-Taken-clause-hears : goal.returns-in-Taken-clause-hears
returns-in-Taken-clause-hears g c = record {
  received = Taken c.in-Taken.bytes c.in-Taken.answer;
  came = c.in-Taken.ensures;
  is_heard = (paced_so c.args.self.now.pacing c.hear.new.self c.args.now c.said.result _ (c.said.ensures ∙ (rw c.deref.ensures.value at c.said_in.ensures)) c.hear.ensures, refl);
}

pub returns-in-Refused-clause-hears : goal.returns-in-Refused-clause-hears
returns-in-Refused-clause-hears g c = record {
  received = Refused c.in-Refused.bytes c.in-Refused.refusal;
  came = c.in-Refused.ensures;
  is_heard = (
    paced_so c.args.self.now.pacing c.hear-in-Refused.new.self c.args.now c.said-in-Refused.result None c.said-in-Refused.ensures c.hear-in-Refused.ensures,
    c.newer_in.result,
    rw c.deref-in-Refused.ensures.value at c.newer_in.ensures,
    record { none = c.tell.ensures.none; early = c.tell.ensures.early; told = c.tell.ensures.told },
  );
}

pub returns-in-Beside-clause-hears : goal.returns-in-Beside-clause-hears
returns-in-Beside-clause-hears g c = record {
  received = Beside c.in-Beside.found;
  came = c.in-Beside.ensures;
  is_heard = (paced_so c.args.self.now.pacing c.hear-in-Beside.new.self c.args.now c.said-in-Beside.result None c.said-in-Beside.ensures c.hear-in-Beside.ensures, refl);
}
