-- An errand that sends is run by a hail.
use Rattle.std.proofs.Common.{subst, sym}
use Rattle.driver.specs.Events.{ended}
use Rattle.driver.specs.Driving.{known, fate_of, post_behind, sends_of}
use Rattle.driver.specs.Todos.{IsHailing, IsRunOf}
use Rattle.driver.proofs.Driven.{of_form}
use Rattle.driver.proofs.driver.Driver.run_errand.Goals as goal

pub returns-in-Send : goal.returns-in-Send
returns-in-Send g c =
    let k = known g.R.Rows g.R.Settles.is_settled g.N.Wire.passed (fate_of g.S.Sink) in
    let old = post_behind c.args.self.now (sends_of c.args.group.now) in
    let new = post_behind c.hail.new.self (sends_of c.hail.new.group) in
    record {
      hands = c.hail.ensures.hands;
      done = of_form k old new (ended c.hail.result) (IsHailing c.in-Send.to c.as_slice.result.now) (IsRunOf c.args.errand.now c.args.now)
          (λ log done form. subst (λ e. IsRunOf e c.args.now log) (sym c.in-Send.is) (subst (λ b. IsHailing c.in-Send.to b log) c.as_slice.ensures.value form)) c.hail.ensures.done;
    }
