-- The number is no longer under way, and nothing was done with folders.
use Rattle.std.proofs.Common.{refl}
use Rattle.offers.specs.declared.stage.Landing.TheVariants.{Ended, Busy, Barred}
use Rattle.run_command.proofs.Looking.{follows_landed}
use Rattle.run_command.proofs.Lives.{beside}
use Rattle.run_command.proofs.desk.PlantDeskDesk.deny.Goals as goal

pub returns-in-AlreadyOpen : goal.returns-in-AlreadyOpen
returns-in-AlreadyOpen g c =
    let it = c.args.self.now in
    let m = it.plant.now.papers.book in
    ((refl, refl), beside it.plant.now.texts g.F.Folders.doings it.folders.now it.plant.now.waits m c.busy.new.self (follows_landed _ _ _ Busy _ c.busy.ensures.same))

pub returns-in_default : goal.returns-in_default
returns-in_default g c =
    let it = c.args.self.now in
    let m = it.plant.now.papers.book in
    ((refl, refl), beside it.plant.now.texts g.F.Folders.doings it.folders.now it.plant.now.waits m c.barred.new.self (follows_landed _ _ _ (Barred _) 0 c.barred.ensures.same))

pub returns-in_default-2 : goal.returns-in_default-2
returns-in_default-2 g c =
    let it = c.args.self.now in
    let m = it.plant.now.papers.book in
    ((refl, refl), beside it.plant.now.texts g.F.Folders.doings it.folders.now it.plant.now.waits m c.ended.new.self (follows_landed _ _ _ Ended _ c.ended.ensures.same))
