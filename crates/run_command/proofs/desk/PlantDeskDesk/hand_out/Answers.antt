-- All was stored; behind it what waited was written, and then files left the offers where nothing waits.
use Rattle.std.proofs.Common.{◌≡◌, ◌∙◌, ap, refl, subst, sym}
use Rattle.offers.specs.Rules.{Standing}
use Rattle.run_command.specs.declared.plant.Plant.{Plant}
use Rattle.run_command.specs.Waiting.{Waiting, IsFiled, WritesStored, all_stored}
use Rattle.run_command.specs.Working.{Settles}
use Rattle.run_command.proofs.Lives.{handed_out}
use Rattle.run_command.proofs.desk.PlantDeskDesk.hand_out.Goals as goal

pub returns-clause-handed : goal.returns-clause-handed
returns-clause-handed g c =
    let doings = g.F.Folders.doings in
    let refuses = g.F.Folders.refuses in
    let it = c.args.self.now in
    let mid = c.write.new.folders in
    let wrote = c.write.new.self in
    let last = c.settle_each.new.self in
    let same : wrote.waits ≡ last.waits = sym c.settle_each.ensures.waits in
    record {
      mid = mid;
      writes = subst (λ (w : Waiting). WritesStored doings refuses it.folders.now mid (all_stored it.plant.now.waits) w) same c.write.ensures.writes;
      settles =
          subst (λ (b : Standing). Settles (doings mid) (doings c.settle_each.new.folders) b last.papers.book) (ap (λ (p : Plant). p.papers.book) c.write.ensures.rest)
          c.settle_each.ensures.settles;
      none = λ full. c.settle_each.ensures.none (λ filed. full (subst IsFiled same filed));
    }

pub returns-clause-lived : goal.returns-clause-lived
returns-clause-lived g c =
    let it = c.args.self.now in
    let last = c.settle_each.new.folders in
    let r = c.settle_each.new.self.waits in
    let n = c.settle_each.new.self.papers.book in (
      (refl, c.settle_each.ensures.texts ∙ ap (λ (p : Plant). p.texts) c.write.ensures.rest),
      handed_out it.plant.now.texts g.F.Folders.doings g.F.Folders.refuses it.folders.now last it.plant.now.waits r it.plant.now.papers.book n (returns-clause-handed g c),
    )
