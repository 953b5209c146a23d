-- A search is one step.
use Rattle.std.proofs.Common.{rules, ◌≡◌, [], ◌∷◌, Ok, Err, ap, refl}
use Rattle.protocol.specs.Refusals.{Call, Seeking}
use Rattle.driver.specs.Events.{took, ended}
use Rattle.wire.proofs.Passing.{Passes-nil}
use Rattle.driver.specs.Driving.{known, fate_of, post_behind, sends_of}
use Rattle.driver.specs.Todos.{IsSearching}
use Rattle.driver.proofs.Driven.{always, noted, refused}
use Rattle.driver.proofs.driver.Driver.search.Goals as goal

pub returns-in-Ok : goal.returns-in-Ok
returns-in-Ok g c =
    let call : Call = Seeking c.get.result c.args.now in
    let same : call ≡ Seeking c.args.number c.args.now = search rules in
    let wire = c.args.self.now.wire.now in
    let sink = c.args.self.now.sink in
    let k = known g.R.Rows g.R.Settles.is_settled g.N.Wire.passed (fate_of g.S.Sink) in
    record {
      hands = (refl, refl);
      done = noted k g.S.Sink.may g.met.S.Sink.fates call c.in-Ok.answer c.args.self.now.station.now c.seek.new.self wire wire sink sink c.hold.new.desk
          (sends_of c.args.group.now) (sends_of c.hold.new.self) c.hold.result (IsSearching c.args.number c.args.now)
          (g.met.S.Sink.fates.rests sink) (g.met.S.Sink.fates.free sink call tt) (λ kept. c.in-Ok.ensures) (Passes-nil (g.N.Wire.passed wire)) c.hold.ensures.holds c.in-Ok.ensures.stops
          (_, ap (λ (x : Call). took x (Ok c.in-Ok.answer) ∷ []) same);
    }

pub returns-in-Err : goal.returns-in-Err
returns-in-Err g c =
    let call : Call = Seeking c.get.result c.args.now in
    let same : call ≡ Seeking c.args.number c.args.now = search rules in
    let wire = c.args.self.now.wire.now in
    record {
      hands = (refl, refl);
      done = refused (known g.R.Rows g.R.Settles.is_settled g.N.Wire.passed (fate_of g.S.Sink)) g.S.Sink.may g.met.S.Sink.fates call c.in-Err.refusal c.args.self.now.station.now c.seek.new.self wire wire c.args.self.now.sink c.decline.new.self (sends_of c.args.group.now)
          c.pass_over.result (IsSearching c.args.number c.args.now) (g.met.S.Sink.fates.free c.args.self.now.sink call tt)
          c.decline.ensures (λ kept. c.in-Err.ensures) (Passes-nil (g.N.Wire.passed wire)) c.in-Err.ensures.stops
          c.pass_over.ensures.goes_on c.pass_over.ensures.ends (always c.pass_over.result _ (_, ap (λ (x : Call). took x (Err c.in-Err.refusal) ∷ []) same));
    }
