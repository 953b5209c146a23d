-- Nothing was done.
use Rattle.std.proofs.Common.{ap, refl}
use Rattle.run_command.specs.declared.plant.Papers.{Papers}
use Rattle.run_command.proofs.Looking.{follows_same}
use Rattle.run_command.proofs.Lives.{beside}
use Rattle.run_command.proofs.desk.PlantDeskDesk.tasks.Goals as goal

pub returns : goal.returns
returns g c =
    let it = c.args.self.now in
    let new = c.has_more.new.self in (
      (refl, refl),
      beside it.plant.now.texts g.F.Folders.doings it.folders.now it.plant.now.waits it.plant.now.papers.book new.book (follows_same it.plant.now.papers.book new.book (ap (λ (p : Papers). p.book) c.has_more.ensures)),
    )
