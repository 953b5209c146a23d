-- A turn is what was taken in, and then what was due.
use Rattle.std.proofs.Common.{rules, ◌≡◌, [], sym, ◌∙◌}
use Rattle.command_ends.specs.Ends.{end_of}
use Rattle.command_ends.specs.declared.end.End.TheVariants as ends
use Rattle.driver.specs.Events.{ended}
use Rattle.driver.proofs.Stretches.{ends_badly}
use Rattle.driver.specs.Driving.{known, fate_of, post, post_of, IsTakingIn, IsSeeingToDue, IsTurn}
use Rattle.driver.proofs.Driven.{answered, and_then, hands_then, no_result, of_form, quiet_behind}
use Rattle.driver.proofs.driver.Driver.turn_at.Goals as goal

pub returns-in_err-receive : goal.returns-in_err-receive
returns-in_err-receive g c =
    let k = known g.R.Rows g.R.Settles.is_settled g.N.Wire.passed (fate_of g.S.Sink) in
    let same : ended c.from_residual.result ≡ end_of c.in_err-receive.field-0.0 = search rules in
    record {
      hands = c.in_err-receive.ensures.hands;
      goes_on = no_result c.from_residual.result c.in_err-receive.field-0.0 _ same;
      done = of_form k (post_of c.args.self.now) (post_of c.receive.new.self) (ended c.from_residual.result) (IsTakingIn c.args.now) (IsTurn c.args.now)
          (λ log done form. absurd (ends_badly c.in_err-receive.field-0.0 (sym same ∙ done)))
          (answered k (post_of c.args.self.now) (post_of c.receive.new.self) (end_of c.in_err-receive.field-0.0) (ended c.from_residual.result) (IsTakingIn c.args.now) same c.in_err-receive.ensures.done);
    }

pub returns : goal.returns
returns g c =
    let k = known g.R.Rows g.R.Settles.is_settled g.N.Wire.passed (fate_of g.S.Sink) in
    let mid = c.receive.new.self in
    record {
      hands = hands_then c.args.self.now mid c.see_to_due.new.self c.in_ok-receive.ensures.hands c.see_to_due.ensures.hands;
      goes_on = c.see_to_due.ensures.goes_on;
      done = and_then k g.S.Sink.may g.met.S.Sink.fates (post_of c.args.self.now) (post mid.station.now c.tell_strangers.new.wire mid.sink)
          (post_of c.see_to_due.new.self) (ended c.see_to_due.result) (IsTakingIn c.args.now) (IsSeeingToDue c.args.now)
          (quiet_behind k (post_of c.args.self.now) mid.station.now mid.wire.now c.tell_strangers.new.wire mid.sink [] ends.Done (IsTakingIn c.args.now) c.tell_strangers.ensures c.in_ok-receive.ensures.done)
          c.see_to_due.ensures.done;
    }
