-- The works, and then what the last of them handed out.
use Rattle.std.proofs.Common.{rules, ◌≡◌}
use Rattle.command_ends.specs.Ends.{end_of}
use Rattle.driver.specs.Events.{ended}
use Rattle.driver.specs.Driving.{known, fate_of, post_behind, sends_of, AtClock, IsStoring, Anyhow}
use Rattle.driver.proofs.Driven.{answered, clocked, ended_last, hands_then, of_form, then_any}
use Rattle.driver.proofs.driver.Driver.work_to_the_end.Goals as goal

pub returns-in_err-work_on-clause-drove : goal.returns-in_err-work_on-clause-drove
returns-in_err-work_on-clause-drove g c =
    let end = end_of c.in_err-work_on.field-0.0 in
    let same : ended c.from_residual.result ≡ end = search rules in
    record {
      hands = c.in_err-work_on.ensures.hands;
      done = answered (known g.R.Rows g.R.Settles.is_settled g.N.Wire.passed (fate_of g.S.Sink)) (post_behind c.args.self.now (sends_of c.args.group.now)) (post_behind c.work_on.new.self (sends_of c.work_on.new.group)) end (ended c.from_residual.result)
          Anyhow same c.in_err-work_on.ensures.done;
    }

pub returns-clause-drove : goal.returns-clause-drove
returns-clause-drove g c =
    let k = known g.R.Rows g.R.Settles.is_settled g.N.Wire.passed (fate_of g.S.Sink) in
    let mid = c.work_on.new.self in
    let q = sends_of c.work_on.new.group in
    let new = post_behind c.settle_group.new.self (sends_of c.settle_group.new.group) in
    let end = ended c.settle_group.result in
    record {
      hands = hands_then c.args.self.now mid c.settle_group.new.self c.in_ok-work_on.ensures.hands c.settle_group.ensures.drove.hands;
      done = then_any k g.S.Sink.may g.met.S.Sink.fates (post_behind c.args.self.now (sends_of c.args.group.now)) (post_behind mid q) new end c.in_ok-work_on.ensures.done
          (of_form k (post_behind mid q) new end (AtClock (λ now. IsStoring)) Anyhow (λ log done form. tt)
          (clocked k g.S.Sink.may g.met.S.Sink.fates mid.station.now mid.wire.now c.now-now.new.self mid.sink q new c.now-now.result end (λ now. IsStoring) c.now-now.ensures.passes c.settle_group.ensures.drove.done));
    }

pub returns-clause-ended : goal.returns-clause-ended
returns-clause-ended g c =
    ended_last g.S.Desk.handed c.settle_group.result c.work_on.new.self.sink c.settle_group.new.self.sink c.work_on.new.group c.settle_group.new.group c.settle_group.ensures.ended
