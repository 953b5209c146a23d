-- The desk did what it did, and then what is to be done for it was done.
use Rattle.std.proofs.Common.{◌≡◌, List, [], inl, inr, refl}
use Rattle.command_ends.specs.declared.end.End.TheVariants.{Done}
use Rattle.driver.specs.Events.{Event, ended}
use Rattle.wire.proofs.Passing.{Passes-nil}
use Rattle.driver.specs.Driving.{known, fate_of, post_with, post_behind, sends_of, Then}
use Rattle.driver.specs.Todos.{IsDeed, IsTodoDone}
use Rattle.driver.proofs.Driven.{and_then, behind_none, moved, of_form}
use Rattle.driver.proofs.driver.Driver.do_deed.Goals as goal

pub returns-in-Some : goal.returns-in-Some
returns-in-Some g c =
    let k = known g.R.Rows g.R.Settles.is_settled g.N.Wire.passed (fate_of g.S.Sink) in
    let s = c.args.self.now.station.now in
    let wire = c.args.self.now.wire.now in
    let q = sends_of c.args.group.now in
    let now = c.args.chance.moment in
    let old = post_behind c.args.self.now q in
    let new = post_behind c.do_todo.new.self (sends_of c.do_todo.new.group) in
    let end = ended c.do_todo.result in
    let None = λ (log : List Event). log ≡ [] in
    let Form = IsTodoDone c.in-Some.todo now in
    record {
      hands = c.do_todo.ensures.hands;
      done = of_form k old new end (Then None Form) (IsDeed now) (λ log done form. inr (c.in-Some.todo, behind_none Form log form))
          (and_then k g.S.Sink.may g.met.S.Sink.fates old (post_with s wire c.deed.new.self q) new end None Form
          (moved k g.S.Sink.may g.met.S.Sink.fates s wire wire c.args.self.now.sink c.deed.new.self q Done None (Passes-nil (g.N.Wire.passed wire)) c.deed.ensures.lived (λ done. refl) refl)
          c.do_todo.ensures.done);
    }

pub returns-in-None : goal.returns-in-None
returns-in-None g c =
    let wire = c.args.self.now.wire.now in
    record {
      hands = (refl, refl);
      done = moved (known g.R.Rows g.R.Settles.is_settled g.N.Wire.passed (fate_of g.S.Sink)) g.S.Sink.may g.met.S.Sink.fates c.args.self.now.station.now wire wire c.args.self.now.sink c.deed.new.self (sends_of c.args.group.now) Done (IsDeed c.args.chance.moment)
          (Passes-nil (g.N.Wire.passed wire)) c.deed.ensures.lived (λ done. inl refl) refl;
    }
