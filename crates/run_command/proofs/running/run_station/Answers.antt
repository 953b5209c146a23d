-- A station that has stopped is not run; another is driven until its run is over, and goes on.
use Rattle.std.proofs.Common.{rules, ◌≡◌, ◌∙◌, false, inl, refl}
use Rattle.command_ends.specs.Ends.{end_of}
use Rattle.command_ends.specs.declared.end.End.TheVariants as ends
use Rattle.driver.specs.Events.{ended}
use Rattle.driver.specs.Driving.{known, post, Anyhow}
use Rattle.driver.proofs.Driven.{answered, drove_kept, stays, when_well}
use Rattle.run_command.specs.Standing.{Texts}
use Rattle.run_command.specs.Running.{tells}
use Rattle.run_command.proofs.Lives.{behind, idle, idle_behind}
use Rattle.run_command.proofs.running.run_station.Goals as goal

pub returns-then-stopped-clause-runs : goal.returns-then-stopped-clause-runs
returns-then-stopped-clause-runs g c =
    let texts : Texts = c.args.terms.texts in
    let k = known g.R.Rows g.R.Settles.is_settled g.N.Wire.passed (tells texts g.F.Folders.doings g.F.Folders.refuses) in
    let old = post c.args.machine.now.station c.args.machine.now.wire c.args.machine.now.outside in
    answered k old old ends.Input (end_of c.of_step.result) Anyhow c.of_step.ensures
    (idle texts g.R.Rows g.R.Settles.is_settled g.N.Wire.passed g.F.Folders.doings g.F.Folders.refuses c.args.machine.now.station c.args.machine.now.wire c.args.machine.now.outside ends.Input refl)

pub returns-in_err-care-clause-runs : goal.returns-in_err-care-clause-runs
returns-in_err-care-clause-runs g c =
    let texts : Texts = c.args.terms.texts in
    let k = known g.R.Rows g.R.Settles.is_settled g.N.Wire.passed (tells texts g.F.Folders.doings g.F.Folders.refuses) in
    let f = c.args.machine.now.outside in
    let h = c.begin.new.folders in
    let same : ended c.from_residual.result ≡ ends.Memory = search rules in
    answered k (post c.args.machine.now.station c.args.machine.now.wire f) (post c.args.machine.now.station c.args.machine.now.wire h) ends.Memory (ended c.from_residual.result) Anyhow same
    (idle_behind texts g.R.Rows g.R.Settles.is_settled g.N.Wire.passed g.F.Folders.doings g.F.Folders.refuses c.args.machine.now.station c.args.machine.now.wire f h ends.Memory c.in_err-care.ensures.does (inl refl))

pub returns-clause-runs : goal.returns-clause-runs
returns-clause-runs g c =
    behind c.args.terms.texts g.R.Rows g.R.Settles.is_settled g.N.Wire.passed g.F.Folders.doings g.F.Folders.refuses c.args.machine.now.station c.drive.new.machine.station c.args.machine.now.wire c.drive.new.machine.wire c.args.machine.now.outside c.begin.new.folders
    c.drive.new.machine.outside (ended c.drive.result) c.in_ok-care.ensures.does c.drive.ensures

pub returns-clause-goes_on : goal.returns-clause-goes_on
returns-clause-goes_on g c =
    let k = known g.R.Rows g.R.Settles.is_settled g.N.Wire.passed (tells c.args.terms.texts g.F.Folders.doings g.F.Folders.refuses) in
    let went : c.args.machine.now.station.stopped ≡ false = search rules in
    when_well c.drive.result (c.drive.new.machine.station.stopped ≡ false)
    (λ done.
    stays k (post c.args.machine.now.station c.args.machine.now.wire c.begin.new.folders) (post c.drive.new.machine.station c.drive.new.machine.wire c.drive.new.machine.outside) (ended c.drive.result) Anyhow done c.drive.ensures ∙ went)

pub returns-clause-was_kept : goal.returns-clause-was_kept
returns-clause-was_kept g c =
    let k = known g.R.Rows g.R.Settles.is_settled g.N.Wire.passed (tells c.args.terms.texts g.F.Folders.doings g.F.Folders.refuses) in
    drove_kept k (post c.args.machine.now.station c.args.machine.now.wire c.begin.new.folders) (post c.drive.new.machine.station c.drive.new.machine.wire c.drive.new.machine.outside) (ended c.drive.result) Anyhow c.drive.ensures
