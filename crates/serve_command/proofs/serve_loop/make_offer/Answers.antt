-- An offer is one step, at the moment of the clock.
use Rattle.std.proofs.Common.{ℕ, Option, [], refl, sym, subst}
use Rattle.protocol.specs.Entries.{Tape}
use Rattle.command_ends.specs.declared.end.End.TheVariants as ends
use Rattle.driver.specs.Events.{ended}
use Rattle.wire.proofs.Passing.{Passes-nil}
use Rattle.driver.specs.Driving.{known, fate_of, post_of}
use Rattle.driver.proofs.Driven.{nothing, of_form}
use Rattle.serve_command.specs.Serving.{IsOffer}
use Rattle.serve_command.proofs.serve_loop.make_offer.Goals as goal

pub returns-in_default : goal.returns-in_default
returns-in_default g c =
    let d = c.args.driver.now in
    record {
      hands = (refl, refl);
      done = nothing (known g.R.Rows g.R.Settles.is_settled g.N.Wire.passed (fate_of g.S.Sink)) g.S.Sink.may g.met.S.Sink.fates d.station.now d.wire.now d.wire.now d.sink ends.Done (IsOffer c.args.offer)
          (Passes-nil (g.N.Wire.passed d.wire.now)) (λ done. subst (λ (o : Option (ℕ × Tape)). IsOffer o []) (sym c.in_default.is) refl) refl;
    }

pub returns : goal.returns
returns g c =
    record {
      hands = c.ask.ensures.hands;
      done = of_form (known g.R.Rows g.R.Settles.is_settled g.N.Wire.passed (fate_of g.S.Sink)) (post_of c.args.driver.now) (post_of c.ask.new.self) (ended c.ask.result) _ (IsOffer c.args.offer)
          (λ log done form. subst (λ (o : Option (ℕ × Tape)). IsOffer o log) (sym c.in-Some.is) form) c.ask.ensures.done;
    }
