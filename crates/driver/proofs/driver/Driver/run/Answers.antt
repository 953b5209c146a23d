-- At the end nothing waits to be sent, or nothing more is.
use Rattle.std.proofs.Common.{ap}
use Rattle.driver.specs.Events.{ended}
use Rattle.driver.specs.Driving.{known, fate_of, post_of, post_behind, sends, sends_of, Anyhow}
use Rattle.driver.proofs.Driven.{drove_kept, handed_last, none_after, none_waits, waiting_from}
use Rattle.driver.proofs.driver.Driver.run.Goals as goal

pub returns-clause-drove : goal.returns-clause-drove
returns-clause-drove g c =
    let k = known g.R.Rows g.R.Settles.is_settled g.N.Wire.passed (fate_of g.S.Sink) in
    let outcome = c.work_to_the_end.result in
    let end = ended outcome in
    let new = c.work_to_the_end.new.self in
    let group = c.work_to_the_end.new.group in
    let drove = waiting_from k c.args.self.now.station.now c.args.self.now.wire.now c.args.self.now.sink _ _ end Anyhow (ap sends c.new-group.ensures) c.work_to_the_end.ensures.drove.done in
    none_waits k (post_of c.args.self.now) new.station.now new.wire.now new.sink (sends_of group) end Anyhow
    (λ done. ap sends (none_after g.S.Desk.handed outcome new.sink group c.work_to_the_end.ensures.ended done)) drove

pub returns-clause-handed : goal.returns-clause-handed
returns-clause-handed g c =
    handed_last g.S.Desk.handed c.work_to_the_end.result c.work_to_the_end.new.self.sink c.work_to_the_end.new.group c.work_to_the_end.ensures.ended

pub returns-clause-was_kept : goal.returns-clause-was_kept
returns-clause-was_kept g c =
    drove_kept (known g.R.Rows g.R.Settles.is_settled g.N.Wire.passed (fate_of g.S.Sink)) (post_behind c.args.self.now _)
    (post_behind c.work_to_the_end.new.self (sends_of c.work_to_the_end.new.group)) (ended c.work_to_the_end.result) Anyhow c.work_to_the_end.ensures.drove.done
