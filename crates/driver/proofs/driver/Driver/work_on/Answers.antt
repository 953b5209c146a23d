-- One step more.
use Rattle.std.proofs.Common.{rules, ◌≡◌, refl}
use Rattle.command_ends.specs.Ends.{end_of}
use Rattle.command_ends.specs.declared.end.End.TheVariants.{Done}
use Rattle.driver.specs.Events.{ended}
use Rattle.wire.proofs.Passing.{Passes-nil}
use Rattle.driver.specs.Driving.{known, fate_of, post_behind, sends_of, AtClock, Anyhow}
use Rattle.driver.specs.Todos.{IsNextWork}
use Rattle.driver.proofs.Driven.{nothing_behind, answered, hands_then, of_form, then_any}
use Rattle.driver.proofs.driver.Driver.work_on.Goals as goal

pub loop-init : goal.loop-init
loop-init g c =
    let wire = c.args.self.now.wire.now in
    record {
      hands = (refl, refl);
      done =
          nothing_behind (known g.R.Rows g.R.Settles.is_settled g.N.Wire.passed (fate_of g.S.Sink)) g.S.Sink.may g.met.S.Sink.fates c.args.self.now.station.now wire wire c.args.self.now.sink (sends_of c.args.group.now) Done Anyhow
          (Passes-nil (g.N.Wire.passed wire)) (λ done. tt) refl;
    }

pub returns-in_err-is_over : goal.returns-in_err-is_over
returns-in_err-is_over g c =
    let k = known g.R.Rows g.R.Settles.is_settled g.N.Wire.passed (fate_of g.S.Sink) in
    let same : ended c.from_residual.result ≡ end_of c.in_err-is_over.field-0.0 = search rules in
    record {
      hands = hands_then c.args.self.now c.loop.self c.step.new.self c.loop.invariant.hands c.in_err-is_over.ensures.hands;
      done = answered k (post_behind c.args.self.now (sends_of c.args.group.now)) (post_behind c.step.new.self (sends_of c.step.new.group)) (end_of c.in_err-is_over.field-0.0) (ended c.from_residual.result) Anyhow same
          (then_any k g.S.Sink.may g.met.S.Sink.fates (post_behind c.args.self.now (sends_of c.args.group.now)) (post_behind c.loop.self (sends_of c.loop.group)) (post_behind c.step.new.self (sends_of c.step.new.group)) (end_of c.in_err-is_over.field-0.0)
          c.loop.invariant.done
          (of_form k (post_behind c.loop.self (sends_of c.loop.group)) (post_behind c.step.new.self (sends_of c.step.new.group)) (end_of c.in_err-is_over.field-0.0) (AtClock IsNextWork) Anyhow (λ log done form. tt) c.in_err-is_over.ensures.done));
    }

pub returns-then-is_over : goal.returns-then-is_over
returns-then-is_over g c =
    record {
      hands = hands_then c.args.self.now c.loop.self c.step.new.self c.loop.invariant.hands c.in_ok-is_over.ensures.hands;
      done = then_any (known g.R.Rows g.R.Settles.is_settled g.N.Wire.passed (fate_of g.S.Sink)) g.S.Sink.may g.met.S.Sink.fates
          (post_behind c.args.self.now (sends_of c.args.group.now)) (post_behind c.loop.self (sends_of c.loop.group)) (post_behind c.step.new.self (sends_of c.step.new.group)) Done c.loop.invariant.done
          (of_form (known g.R.Rows g.R.Settles.is_settled g.N.Wire.passed (fate_of g.S.Sink)) (post_behind c.loop.self (sends_of c.loop.group)) (post_behind c.step.new.self (sends_of c.step.new.group)) Done (AtClock IsNextWork) Anyhow (λ log done form. tt) c.in_ok-is_over.ensures.done);
    }

pub loop-preserved : goal.loop-preserved
loop-preserved g c = record {
  hands = hands_then c.args.self.now c.loop.self c.step.new.self c.loop.invariant.hands c.in_ok-is_over.ensures.hands;
  done =
      then_any (known g.R.Rows g.R.Settles.is_settled g.N.Wire.passed (fate_of g.S.Sink)) g.S.Sink.may g.met.S.Sink.fates
      (post_behind c.args.self.now (sends_of c.args.group.now)) (post_behind c.loop.self (sends_of c.loop.group)) (post_behind c.step.new.self (sends_of c.step.new.group)) Done c.loop.invariant.done
      (of_form (known g.R.Rows g.R.Settles.is_settled g.N.Wire.passed (fate_of g.S.Sink)) (post_behind c.loop.self (sends_of c.loop.group)) (post_behind c.step.new.self (sends_of c.step.new.group)) Done (AtClock IsNextWork) Anyhow (λ log done form. tt) c.in_ok-is_over.ensures.done);
}
