-- It is kept in mind, and nothing more.
use Rattle.std.proofs.Common.{refl}
use Rattle.run_command.proofs.Looking.{follows_same}
use Rattle.run_command.proofs.Lives.{beside}
use Rattle.run_command.proofs.desk.PlantDeskDesk.decline.Goals as goal

pub returns : goal.returns
returns g c =
    let it = c.args.self.now in
    ((refl, refl), beside it.plant.now.texts g.F.Folders.doings it.folders.now it.plant.now.waits it.plant.now.papers.book it.plant.now.papers.book (follows_same it.plant.now.papers.book it.plant.now.papers.book refl))
