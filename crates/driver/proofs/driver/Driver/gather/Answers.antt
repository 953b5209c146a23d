-- What was taken up is held.
use Rattle.std.proofs.Common.{Ok, ap, inl}
use Rattle.command_ends.specs.Ends.{end_of}
use Rattle.command_ends.specs.declared.end.End.TheVariants.{Done}
use Rattle.driver.specs.Driving.{known, fate_of, post_behind, sends_of, IsReceiving, IsTakingIn, IsTakingUp}
use Rattle.driver.proofs.Driven.{of_form, held_back, taken_up, took_one, took_no_more}
use Rattle.driver.proofs.driver.Driver.gather.Goals as goal

pub returns-in-Ok-Some : goal.returns-in-Ok-Some
returns-in-Ok-Some g c =
    let k = known g.R.Rows g.R.Settles.is_settled g.N.Wire.passed (fate_of g.S.Sink) in
    let old = c.args.self.now in
    let mid = c.receive_next.new.self in
    let q = sends_of c.args.group.now in
    let step = c.in-Ok-Some.step in
    let took = c.in-Ok-Some.ensures.took in
    let held = took_one k g.S.Sink.may g.met.S.Sink.fates (IsReceiving c.args.now) (IsTakingIn c.args.now) (post_behind old q) (post_behind mid q) (Ok c.in-Ok-Some.field-0) step (ap Ok c.in-Ok-Some.field-0-is) (took.up q) in
    record {
      hands = took.hands;
      done =
          held_back k g.S.Sink.may g.met.S.Sink.fates (IsReceiving c.args.now) (IsTakingUp c.args.now) step.answer old.station.now mid.station.now old.wire.now mid.wire.now old.sink mid.sink c.hold.new.desk q
          (sends_of c.hold.new.self) c.hold.result held c.hold.ensures.holds (taken_up c.args.now step.answer);
    }

pub returns-in-Ok-None : goal.returns-in-Ok-None
returns-in-Ok-None g c =
    let k = known g.R.Rows g.R.Settles.is_settled g.N.Wire.passed (fate_of g.S.Sink) in
    let q = sends_of c.args.group.now in
    let old = post_behind c.args.self.now q in
    let new = post_behind c.receive_next.new.self q in
    let took = c.in-Ok-None.ensures.took in
    record {
      hands = took.hands;
      done =
          of_form k old new Done (IsTakingIn c.args.now) (IsTakingUp c.args.now) (λ log done form. inl form)
          (took_no_more k g.S.Sink.may g.met.S.Sink.fates (IsReceiving c.args.now) (IsTakingIn c.args.now) old new (Ok c.in-Ok-None.field-0) (ap Ok c.in-Ok-None.field-0-is) (took.up q));
    }

pub returns-in-Err : goal.returns-in-Err
returns-in-Err g c =
    let q = sends_of c.args.group.now in
    let took = c.in-Err.ensures.took in
    record {
      hands = took.hands;
      done = of_form (known g.R.Rows g.R.Settles.is_settled g.N.Wire.passed (fate_of g.S.Sink)) (post_behind c.args.self.now q) (post_behind c.receive_next.new.self q) (end_of c.in-Err.fault) (IsTakingIn c.args.now) (IsTakingUp c.args.now) (λ log done form. inl form) (took.up q);
    }
