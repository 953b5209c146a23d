-- The withdrawal, and then the search.
use Rattle.std.proofs.Common.{rules, ◌≡◌, sym, ◌∙◌}
use Rattle.command_ends.specs.Ends.{end_of}
use Rattle.driver.specs.Events.{ended}
use Rattle.driver.proofs.Stretches.{ends_badly}
use Rattle.driver.specs.Driving.{known, fate_of, post_of}
use Rattle.driver.proofs.Driven.{answered, and_then, hands_then, of_form}
use Rattle.serve_command.specs.Serving.{IsWithdrawal, IsSearch, IsLaterAsking}
use Rattle.serve_command.proofs.serve_loop.withdraw_and_seek.Goals as goal

pub returns-in_err-make_withdrawal : goal.returns-in_err-make_withdrawal
returns-in_err-make_withdrawal g c =
    let k = known g.R.Rows g.R.Settles.is_settled g.N.Wire.passed (fate_of g.S.Sink) in
    let old = post_of c.args.driver.now in
    let new = post_of c.make_withdrawal.new.driver in
    let same : ended c.from_residual.result ≡ end_of c.in_err-make_withdrawal.field-0.0 = search rules in
    record {
      hands = c.in_err-make_withdrawal.ensures.hands;
      done = of_form k old new (ended c.from_residual.result) (IsWithdrawal c.args.withdraw) (IsLaterAsking c.args.withdraw c.args.seek)
          (λ log done form. absurd (ends_badly c.in_err-make_withdrawal.field-0.0 (sym same ∙ done)))
          (answered k old new (end_of c.in_err-make_withdrawal.field-0.0) (ended c.from_residual.result) (IsWithdrawal c.args.withdraw) same c.in_err-make_withdrawal.ensures.done);
    }

pub returns : goal.returns
returns g c =
    record {
      hands = hands_then c.args.driver.now c.make_withdrawal.new.driver c.make_search.new.driver c.in_ok-make_withdrawal.ensures.hands c.make_search.ensures.hands;
      done = and_then (known g.R.Rows g.R.Settles.is_settled g.N.Wire.passed (fate_of g.S.Sink)) g.S.Sink.may g.met.S.Sink.fates
          (post_of c.args.driver.now) (post_of c.make_withdrawal.new.driver) (post_of c.make_search.new.driver) (ended c.make_search.result) (IsWithdrawal c.args.withdraw) (IsSearch c.args.seek)
          c.in_ok-make_withdrawal.ensures.done c.make_search.ensures.done;
    }
