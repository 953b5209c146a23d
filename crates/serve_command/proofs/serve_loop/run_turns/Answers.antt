-- One turn more.
use Rattle.std.proofs.Common.{rules, ◌≡◌, ◌+◌, ◌∙◌, refl, sym}
use Rattle.command_ends.specs.Ends.{end_of}
use Rattle.command_ends.specs.declared.end.End.TheVariants.{Done}
use Rattle.driver.specs.Events.{ended}
use Rattle.wire.proofs.Passing.{Passes-nil}
use Rattle.driver.proofs.Stretches.{ends_badly}
use Rattle.driver.specs.Driving.{known, fate_of, post_of, IsTurn, AtClock, Then}
use Rattle.driver.proofs.Driven.{nothing, and_then, hands_then, of_form, answered}
use Rattle.serve_command.specs.Serving.{AreTurns, none, one_more}
use Rattle.serve_command.proofs.serve_loop.run_turns.Goals as goal

pub loop-init : goal.loop-init
loop-init g c =
    let d = c.args.driver.now in
    record {
      hands = (refl, refl);
      done =
          nothing (known g.R.Rows g.R.Settles.is_settled g.N.Wire.passed (fate_of g.S.Sink)) g.S.Sink.may g.met.S.Sink.fates d.station.now d.wire.now d.wire.now d.sink Done (AreTurns 0)
          (Passes-nil (g.N.Wire.passed d.wire.now)) (λ done. none) refl;
    }

pub loop-preserved : goal.loop-preserved
loop-preserved g c =
    let k = known g.R.Rows g.R.Settles.is_settled g.N.Wire.passed (fate_of g.S.Sink) in
    let old = post_of c.args.driver.now in
    let mid = post_of c.loop.driver in
    let new = post_of c.turn.new.self in
    record {
      hands = hands_then c.args.driver.now c.loop.driver c.turn.new.self c.loop.invariant.hands c.in_ok-turn.ensures.hands;
      done =
          of_form k old new Done (Then (AreTurns c.loop.counter) (AtClock IsTurn)) (AreTurns (c.loop.counter + 1))
          (λ log is form. one_more c.loop.counter (c.loop.counter + 1) form.first form.last log refl form.is_first form.is_last form.joined)
          (and_then k g.S.Sink.may g.met.S.Sink.fates old mid new Done (AreTurns c.loop.counter) (AtClock IsTurn) c.loop.invariant.done c.in_ok-turn.ensures.done);
    }

pub returns-in_err-turn : goal.returns-in_err-turn
returns-in_err-turn g c =
    let k = known g.R.Rows g.R.Settles.is_settled g.N.Wire.passed (fate_of g.S.Sink) in
    let old = post_of c.args.driver.now in
    let mid = post_of c.loop.driver in
    let new = post_of c.turn.new.self in
    let fault = c.in_err-turn.field-0.0 in
    let same : ended c.from_residual.result ≡ end_of fault = search rules in
    record {
      hands = hands_then c.args.driver.now c.loop.driver c.turn.new.self c.loop.invariant.hands c.in_err-turn.ensures.hands;
      done = of_form k old new (ended c.from_residual.result) (Then (AreTurns c.loop.counter) (AtClock IsTurn)) (AreTurns c.args.turns)
          (λ log done form. absurd (ends_badly fault (sym same ∙ done)))
          (answered k old new (end_of fault) (ended c.from_residual.result) (Then (AreTurns c.loop.counter) (AtClock IsTurn)) same
          (and_then k g.S.Sink.may g.met.S.Sink.fates old mid new (end_of fault) (AreTurns c.loop.counter) (AtClock IsTurn) c.loop.invariant.done c.in_err-turn.ensures.done));
    }
