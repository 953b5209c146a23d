-- The offer, then the withdrawal, and then the search.
use Rattle.std.proofs.Common.{rules, ◌≡◌, sym, ◌∙◌}
use Rattle.command_ends.specs.Ends.{end_of}
use Rattle.driver.specs.Events.{ended}
use Rattle.driver.proofs.Stretches.{ends_badly}
use Rattle.driver.specs.Driving.{known, fate_of, post_of}
use Rattle.driver.proofs.Driven.{answered, and_then, hands_then, of_form}
use Rattle.serve_command.specs.Serving.{IsOffer, IsLaterAsking, IsAsking}
use Rattle.serve_command.proofs.serve_loop.ask_all.Goals as goal

pub returns-in_err-make_offer : goal.returns-in_err-make_offer
returns-in_err-make_offer g c =
    let k = known g.R.Rows g.R.Settles.is_settled g.N.Wire.passed (fate_of g.S.Sink) in
    let old = post_of c.args.driver.now in
    let new = post_of c.make_offer.new.driver in
    let same : ended c.from_residual.result ≡ end_of c.in_err-make_offer.field-0.0 = search rules in
    record {
      hands = c.in_err-make_offer.ensures.hands;
      done = of_form k old new (ended c.from_residual.result) (IsOffer c.args.task.offer) (IsAsking c.args.task.offer c.args.task.withdraw c.args.task.seek)
          (λ log done form. absurd (ends_badly c.in_err-make_offer.field-0.0 (sym same ∙ done)))
          (answered k old new (end_of c.in_err-make_offer.field-0.0) (ended c.from_residual.result) (IsOffer c.args.task.offer) same c.in_err-make_offer.ensures.done);
    }

pub returns : goal.returns
returns g c =
    record {
      hands = hands_then c.args.driver.now c.make_offer.new.driver c.withdraw_and_seek.new.driver c.in_ok-make_offer.ensures.hands c.withdraw_and_seek.ensures.hands;
      done = and_then (known g.R.Rows g.R.Settles.is_settled g.N.Wire.passed (fate_of g.S.Sink)) g.S.Sink.may g.met.S.Sink.fates
          (post_of c.args.driver.now) (post_of c.make_offer.new.driver) (post_of c.withdraw_and_seek.new.driver) (ended c.withdraw_and_seek.result) (IsOffer c.args.task.offer) (IsLaterAsking c.args.task.withdraw c.args.task.seek)
          c.in_ok-make_offer.ensures.done c.withdraw_and_seek.ensures.done;
    }
