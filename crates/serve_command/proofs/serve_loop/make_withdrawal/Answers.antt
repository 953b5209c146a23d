-- A withdrawal is one step, at the moment of the clock.
use Rattle.std.proofs.Common.{ℕ, Option, [], refl, sym, subst}
use Rattle.command_ends.specs.declared.end.End.TheVariants as ends
use Rattle.driver.specs.Events.{ended}
use Rattle.wire.proofs.Passing.{Passes-nil}
use Rattle.driver.specs.Driving.{known, fate_of, post_of}
use Rattle.driver.proofs.Driven.{nothing, of_form}
use Rattle.serve_command.specs.Serving.{IsWithdrawal}
use Rattle.serve_command.proofs.serve_loop.make_withdrawal.Goals as goal

pub returns-in-None : goal.returns-in-None
returns-in-None g c =
    let d = c.args.driver.now in
    record {
      hands = (refl, refl);
      done = nothing (known g.R.Rows g.R.Settles.is_settled g.N.Wire.passed (fate_of g.S.Sink)) g.S.Sink.may g.met.S.Sink.fates d.station.now d.wire.now d.wire.now d.sink ends.Done (IsWithdrawal c.args.withdraw)
          (Passes-nil (g.N.Wire.passed d.wire.now)) (λ done. subst (λ (o : Option ℕ). IsWithdrawal o []) (sym c.in-None.is) refl) refl;
    }

pub returns-in-Some : goal.returns-in-Some
returns-in-Some g c =
    record {
      hands = c.ask.ensures.hands;
      done = of_form (known g.R.Rows g.R.Settles.is_settled g.N.Wire.passed (fate_of g.S.Sink)) (post_of c.args.driver.now) (post_of c.ask.new.self) (ended c.ask.result) _ (IsWithdrawal c.args.withdraw)
          (λ log done form. subst (λ (o : Option ℕ). IsWithdrawal o log) (sym c.in-Some.is) form) c.ask.ensures.done;
    }
