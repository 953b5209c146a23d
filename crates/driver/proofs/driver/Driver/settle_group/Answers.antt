-- What was saved is stored, and what waited is handed on; or it can't be stored, and nothing is.
use Rattle.std.proofs.Common.{◌≡◌, [], ap, refl}
use Rattle.command_ends.specs.declared.end.End.TheVariants.{Done}
use Rattle.driver.specs.Driving.{known, fate_of, post_behind, sends, sends_of, IsStoring}
use Rattle.driver.proofs.Driven.{none_left, settled_so, unstored_so}
use Rattle.driver.proofs.driver.Driver.settle_group.Goals as goal

pub returns-in-Ok-clause-drove : goal.returns-in-Ok-clause-drove
returns-in-Ok-clause-drove g c =
    let k = known g.R.Rows g.R.Settles.is_settled g.N.Wire.passed (fate_of g.S.Sink) in
    let old = c.args.self.now in
    let q = sends_of c.args.group.now in
    let none : sends_of c.hand_on.new.self ≡ [] = ap sends c.hand_on.ensures.none in
    record {
      hands = (refl, refl);
      done =
          none_left k (post_behind old q) c.settle.new.self c.hand_on.new.wire c.hand_on.new.desk (sends_of c.hand_on.new.self) Done IsStoring none
          (settled_so k g.S.Sink.may g.met.S.Sink.fates old.station.now c.settle.new.self old.wire.now old.wire.now c.hand_on.new.wire old.sink old.sink c.hand_on.new.desk q
          refl refl c.in-Ok.ensures c.hand_on.ensures.sends c.hand_on.ensures.lived);
    }

pub returns-in-Err-clause-drove : goal.returns-in-Err-clause-drove
returns-in-Err-clause-drove g c =
    let old = c.args.self.now in
    let q = sends_of c.args.group.now in
    record {
      hands = (refl, refl);
      done =
          unstored_so (known g.R.Rows g.R.Settles.is_settled g.N.Wire.passed (fate_of g.S.Sink)) g.S.Sink.may g.met.S.Sink.fates old.station.now c.settle.new.self old.wire.now old.sink q q
          c.of_step.result IsStoring (c.in-Err.refusal, c.in-Err.ensures, c.of_step.ensures);
    }

pub returns-in-Ok-clause-ended : goal.returns-in-Ok-clause-ended
returns-in-Ok-clause-ended g c = record { handed = c.hand_on.ensures.handed; none = c.hand_on.ensures.none; begins = c.hand_on.ensures.begins }
