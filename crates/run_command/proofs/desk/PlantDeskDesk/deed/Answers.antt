-- A look went on, or a part of what it found was taken in; or nothing was done with files.
use Rattle.std.proofs.Common.{refl}
use Rattle.run_command.proofs.Looking.{follows_same}
use Rattle.run_command.proofs.Lives.{beside, looked_on}
use Rattle.run_command.proofs.desk.PlantDeskDesk.deed.Goals as goal

pub returns-then-takes_turn-clause-lived : goal.returns-then-takes_turn-clause-lived
returns-then-takes_turn-clause-lived g c =
    let it = c.args.self.now in
    ((refl, refl), looked_on it.plant.now.texts g.F.Folders.doings it.folders.now c.look_at_offers.new.folders it.plant.now.waits it.plant.now.papers.book c.look_at_offers.new.self.book c.look_at_offers.ensures)

pub returns-then-is_some-clause-lived : goal.returns-then-is_some-clause-lived
returns-then-is_some-clause-lived g c =
    let it = c.args.self.now in
    ((refl, refl), beside it.plant.now.texts g.F.Folders.doings it.folders.now it.plant.now.waits it.plant.now.papers.book c.see_next.new.self.book c.see_next.ensures)

pub returns-in-Some-clause-lived : goal.returns-in-Some-clause-lived
returns-in-Some-clause-lived g c =
    let it = c.args.self.now in
    ((refl, refl), beside it.plant.now.texts g.F.Folders.doings it.folders.now it.plant.now.waits it.plant.now.papers.book it.plant.now.papers.book (follows_same it.plant.now.papers.book it.plant.now.papers.book refl))
