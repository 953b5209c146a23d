-- A look leaves all but the desk as it was; the others are known.
use Rattle.std.proofs.Common.{inl, inr, refl}
use Rattle.command_ends.specs.declared.end.End.TheVariants.{Done}
use Rattle.driver.specs.Events.{ended}
use Rattle.wire.proofs.Passing.{Passes-nil}
use Rattle.driver.specs.Driving.{known, fate_of, post_behind, sends_of, IsDueUp, IsTakingUp}
use Rattle.driver.specs.Todos.{IsDeed, IsWorkDone}
use Rattle.driver.proofs.Driven.{moved, answered, of_form}
use Rattle.driver.proofs.driver.Driver.work.Goals as goal

pub returns-in-Look : goal.returns-in-Look
returns-in-Look g c =
    let wire = c.args.self.now.wire.now in
    record {
      hands = (refl, refl);
      done =
          moved (known g.R.Rows g.R.Settles.is_settled g.N.Wire.passed (fate_of g.S.Sink)) g.S.Sink.may g.met.S.Sink.fates c.args.self.now.station.now wire wire c.args.self.now.sink c.look.new.self (sends_of c.args.group.now) Done (IsWorkDone c.args.found.now)
          (Passes-nil (g.N.Wire.passed wire)) c.look.ensures (λ done. inl refl) refl;
    }

pub returns-in-TakeIn : goal.returns-in-TakeIn
returns-in-TakeIn g c =
    let k = known g.R.Rows g.R.Settles.is_settled g.N.Wire.passed (fate_of g.S.Sink) in
    let old = post_behind c.args.self.now (sends_of c.args.group.now) in
    let new = post_behind c.gather.new.self (sends_of c.gather.new.group) in
    let now = c.args.found.now in
    let end = ended c.going_on.result in
    record {
      hands = c.gather.ensures.hands;
      done = of_form k old new end (IsTakingUp now) (IsWorkDone now) (λ log done form. inr (inl form)) (answered k old new (ended c.gather.result) end (IsTakingUp now) c.going_on.ensures c.gather.ensures.done);
    }

pub returns-in-Due : goal.returns-in-Due
returns-in-Due g c =
    let k = known g.R.Rows g.R.Settles.is_settled g.N.Wire.passed (fate_of g.S.Sink) in
    let old = post_behind c.args.self.now (sends_of c.args.group.now) in
    let new = post_behind c.gather_due.new.self (sends_of c.gather_due.new.group) in
    let now = c.args.found.now in
    let end = ended c.going_on-in-Due.result in
    record {
      hands = c.gather_due.ensures.hands;
      done = of_form k old new end (IsDueUp now) (IsWorkDone now) (λ log done form. inr (inr (inl form))) (answered k old new (ended c.gather_due.result) end (IsDueUp now) c.going_on-in-Due.ensures c.gather_due.ensures.done);
    }

pub returns-in-Deed : goal.returns-in-Deed
returns-in-Deed g c =
    let k = known g.R.Rows g.R.Settles.is_settled g.N.Wire.passed (fate_of g.S.Sink) in
    let old = post_behind c.args.self.now (sends_of c.args.group.now) in
    let new = post_behind c.do_deed.new.self (sends_of c.do_deed.new.group) in
    let now = c.args.found.now in
    let end = ended c.going_on-in-Deed.result in
    record {
      hands = c.do_deed.ensures.hands;
      done = of_form k old new end (IsDeed now) (IsWorkDone now) (λ log done form. inr (inr (inr form))) (answered k old new (ended c.do_deed.result) end (IsDeed now) c.going_on-in-Deed.ensures c.do_deed.ensures.done);
    }
