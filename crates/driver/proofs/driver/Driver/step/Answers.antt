-- The clock was asked, the wire was looked at, the steps before were handed on where the next work can't share their save, and it was done.
use Rattle.std.proofs.Common.{rules, ◌≡◌, List, [], sym, ◌∙◌, refl}
use Rattle.command_ends.specs.Ends.{end_of}
use Rattle.driver.specs.Events.{Event, ended}
use Rattle.driver.proofs.Stretches.{ends_badly}
use Rattle.command_ends.specs.declared.end.End.TheVariants.{Done}
use Rattle.driver.specs.Driving.{known, fate_of, post_with, post_behind, sends_of, AtClock, Then, MayStore}
use Rattle.driver.specs.Todos.{IsNextWork, IsWorkDone}
use Rattle.driver.proofs.Driven.{and_then, answered, behind_none, hands_then, moved, clocked, of_form}
use Rattle.wire.proofs.Passing.{Passes-then}
use Rattle.driver.proofs.driver.Driver.step.Goals as goal

pub returns-in_err-end_group : goal.returns-in_err-end_group
returns-in_err-end_group g c =
    let k = known g.R.Rows g.R.Settles.is_settled g.N.Wire.passed (fate_of g.S.Sink) in
    let s = c.args.self.now.station.now in
    let sink = c.args.self.now.sink in
    let q = sends_of c.args.group.now in
    let wire = c.now-now.new.self in
    let passed = g.N.Wire.passed in
    let strangers = Passes-then (passed wire) (passed c.fetch-waits.new.self) (passed c.tell_strangers.new.wire) [] [] c.fetch-waits.ensures.passes c.tell_strangers.ensures in
    let quiet = Passes-then (passed wire) (passed c.tell_strangers.new.wire) (passed c.tell_lost.new.wire) [] [] strangers c.tell_lost.ensures in
    let old = post_behind c.args.self.now q in
    let new = post_behind c.end_group.new.self (sends_of c.end_group.new.group) in
    let fault = c.in_err-end_group.field-0.0 in
    let end = end_of fault in
    let same : ended c.from_residual.result ≡ end = search rules in
    let None = λ (log : List Event). log ≡ [] in
    record {
      hands = c.in_err-end_group.ensures.drove.hands;
      done =
          answered k old new end (ended c.from_residual.result) (AtClock IsNextWork) same
          (of_form k old new end (AtClock (λ now. Then None MayStore)) (AtClock IsNextWork) (λ log done form. absurd (ends_badly fault done))
          (clocked k g.S.Sink.may g.met.S.Sink.fates s c.args.self.now.wire.now wire sink q new c.now-now.result end (λ now. Then None MayStore) c.now-now.ensures.passes
          (and_then k g.S.Sink.may g.met.S.Sink.fates (post_with s wire sink q) (post_with s c.tell_lost.new.wire c.tasks-tasks.new.self q) new end None MayStore
          (moved k g.S.Sink.may g.met.S.Sink.fates s wire c.tell_lost.new.wire sink c.tasks-tasks.new.self q Done None quiet c.tasks-tasks.ensures (λ done. refl) refl)
          c.in_err-end_group.ensures.drove.done)));
    }

pub returns : goal.returns
returns g c =
    let k = known g.R.Rows g.R.Settles.is_settled g.N.Wire.passed (fate_of g.S.Sink) in
    let s = c.args.self.now.station.now in
    let sink = c.args.self.now.sink in
    let q = sends_of c.args.group.now in
    let wire = c.now-now.new.self in
    let passed = g.N.Wire.passed in
    let strangers = Passes-then (passed wire) (passed c.fetch-waits.new.self) (passed c.tell_strangers.new.wire) [] [] c.fetch-waits.ensures.passes c.tell_strangers.ensures in
    let quiet = Passes-then (passed wire) (passed c.tell_strangers.new.wire) (passed c.tell_lost.new.wire) [] [] strangers c.tell_lost.ensures in
    let now = c.now-now.result in
    let begun = post_with s wire sink q in
    let found = post_with s c.tell_lost.new.wire c.tasks-tasks.new.self q in
    let mid = post_behind c.end_group.new.self (sends_of c.end_group.new.group) in
    let new = post_behind c.work.new.self (sends_of c.work.new.group) in
    let end = ended c.work.result in
    let None = λ (log : List Event). log ≡ [] in
    record {
      hands = hands_then c.args.self.now c.end_group.new.self c.work.new.self c.in_ok-end_group.ensures.drove.hands c.work.ensures.hands;
      done =
          clocked k g.S.Sink.may g.met.S.Sink.fates s c.args.self.now.wire.now wire sink q new now end IsNextWork c.now-now.ensures.passes
          (and_then k g.S.Sink.may g.met.S.Sink.fates begun mid new end MayStore (IsWorkDone now)
          (of_form k begun mid Done (Then None MayStore) MayStore (λ log done form. behind_none MayStore log form)
          (and_then k g.S.Sink.may g.met.S.Sink.fates begun found mid Done None MayStore
          (moved k g.S.Sink.may g.met.S.Sink.fates s wire c.tell_lost.new.wire sink c.tasks-tasks.new.self q Done None quiet c.tasks-tasks.ensures (λ done. refl) refl)
          c.in_ok-end_group.ensures.drove.done))
          c.work.ensures.done);
    }
