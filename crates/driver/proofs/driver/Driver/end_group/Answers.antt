-- The group ends, or it goes on.
use Rattle.driver.specs.Events.{ended}
use Rattle.wire.proofs.Passing.{Passes-nil}
use Rattle.command_ends.specs.declared.end.End.TheVariants.{Done}
use Rattle.std.proofs.Common.{◌≡◌, ap, inl, inr, refl}
use Rattle.driver.specs.Driving.{known, fate_of, post_behind, sends_of, IsStoring, MayStore}
use Rattle.driver.proofs.Driven.{none_left_in, nothing_behind, of_form}
use Rattle.driver.proofs.driver.Driver.end_group.Goals as goal

pub returns-then-ends_before-clause-drove : goal.returns-then-ends_before-clause-drove
returns-then-ends_before-clause-drove g c =
    let drove = c.settle_group.ensures.drove in
    record {
      hands = drove.hands;
      done =
          of_form (known g.R.Rows g.R.Settles.is_settled g.N.Wire.passed (fate_of g.S.Sink)) (post_behind c.args.self.now (sends_of c.args.group.now)) (post_behind c.settle_group.new.self (sends_of c.settle_group.new.group))
          (ended c.settle_group.result) IsStoring MayStore (λ log done form. inr form) drove.done;
    }

pub returns-then-ends_before-clause-alone : goal.returns-then-ends_before-clause-alone
returns-then-ends_before-clause-alone g c = λ alone.
    none_left_in g.S.Desk.handed c.settle_group.result c.args.self.now.sink c.settle_group.new.self.sink c.args.group.now c.settle_group.new.group c.settle_group.ensures.ended

pub returns-else-ends_before-clause-drove : goal.returns-else-ends_before-clause-drove
returns-else-ends_before-clause-drove g c =
    let d = c.args.self.now in
    let same : sends_of c.go_on.new.self ≡ sends_of c.args.group.now = ap sends_of c.go_on.ensures in
    record {
      hands = (refl, refl);
      done =
          rw same (nothing_behind (known g.R.Rows g.R.Settles.is_settled g.N.Wire.passed (fate_of g.S.Sink)) g.S.Sink.may g.met.S.Sink.fates d.station.now d.wire.now d.wire.now d.sink (sends_of c.args.group.now) Done MayStore (Passes-nil (g.N.Wire.passed d.wire.now)) (λ done. inl refl) refl);
    }
