-- What was asked, and then the turns.
use Rattle.std.proofs.Common.{rules, ◌≡◌, sym, ◌∙◌}
use Rattle.command_ends.specs.Ends.{end_of}
use Rattle.driver.specs.Events.{ended}
use Rattle.driver.proofs.Stretches.{ends_badly}
use Rattle.driver.specs.Driving.{known, fate_of, post_of}
use Rattle.driver.proofs.Driven.{answered, and_then, hands_then, of_form}
use Rattle.serve_command.specs.Serving.{IsAsking, AreTurns, IsRun}
use Rattle.serve_command.proofs.serve_loop.ask_and_turn.Goals as goal

pub returns-in_err-ask_all : goal.returns-in_err-ask_all
returns-in_err-ask_all g c =
    let k = known g.R.Rows g.R.Settles.is_settled g.N.Wire.passed (fate_of g.S.Sink) in
    let old = post_of c.args.driver.now in
    let new = post_of c.ask_all.new.driver in
    let same : ended c.from_residual.result ≡ end_of c.in_err-ask_all.field-0.0 = search rules in
    record {
      hands = c.in_err-ask_all.ensures.hands;
      done = of_form k old new (ended c.from_residual.result) (IsAsking c.args.task.offer c.args.task.withdraw c.args.task.seek) (IsRun c.args.task)
          (λ log done form. absurd (ends_badly c.in_err-ask_all.field-0.0 (sym same ∙ done)))
          (answered k old new (end_of c.in_err-ask_all.field-0.0) (ended c.from_residual.result) (IsAsking c.args.task.offer c.args.task.withdraw c.args.task.seek) same c.in_err-ask_all.ensures.done);
    }

pub returns : goal.returns
returns g c =
    record {
      hands = hands_then c.args.driver.now c.ask_all.new.driver c.run_turns.new.driver c.in_ok-ask_all.ensures.hands c.run_turns.ensures.hands;
      done = and_then (known g.R.Rows g.R.Settles.is_settled g.N.Wire.passed (fate_of g.S.Sink)) g.S.Sink.may g.met.S.Sink.fates
          (post_of c.args.driver.now) (post_of c.ask_all.new.driver) (post_of c.run_turns.new.driver) (ended c.run_turns.result) (IsAsking c.args.task.offer c.args.task.withdraw c.args.task.seek) (AreTurns c.args.task.turns)
          c.in_ok-ask_all.ensures.done c.run_turns.ensures.done;
    }
