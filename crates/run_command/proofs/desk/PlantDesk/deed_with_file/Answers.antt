-- The next deed was done, or something else.
use Rattle.std.proofs.Common.{[], refl}
use Rattle.run_command.specs.Living.{kept, kept_of}
use Rattle.run_command.specs.Lives.{joined}
use Rattle.run_command.proofs.Looking.{deals_from, deals_left, deals_looked}
use Rattle.run_command.proofs.Lives.{beside, dealt}
use Rattle.run_command.proofs.desk.PlantDesk.deed_with_file.Goals as goal

pub returns-in-Some-Ask : goal.returns-in-Some-Ask
returns-in-Some-Ask g c =
    let it = c.args.self.now in
    let chose = c.next_task.new.self in
    ((refl, refl), beside it.plant.now.texts g.F.Folders.doings it.folders.now it.plant.now.waits it.plant.now.papers.book chose.book c.next_task.ensures.book)

pub returns-in-Some-Leave : goal.returns-in-Some-Leave
returns-in-Some-Leave g c =
    let it = c.args.self.now in
    let doings = g.F.Folders.doings in
    let w = it.plant.now.waits in
    let chose = c.next_task.new.self in
    let new = c.leave.new.self in
    let last = c.leave.new.folders in (
      (refl, refl),
      dealt it.plant.now.texts doings it.folders.now last w it.plant.now.papers.book new.book
          (deals_from it.plant.now.texts (doings it.folders.now) (doings last) w it.plant.now.papers.book chose.book new.book c.next_task.ensures.book
          (deals_left it.plant.now.texts (doings it.folders.now) (doings last) w c.is_filed.result c.in-Some-Leave.departure chose.book new.book
          (λ moves. c.is_filed.ensures.0 moves) c.leave.ensures (rw c.in-Some-Leave.field-0-is at c.in-Some-Leave.ensures.free))),
    )

pub returns-in-Some-Read : goal.returns-in-Some-Read
returns-in-Some-Read g c =
    let it = c.args.self.now in
    let doings = g.F.Folders.doings in
    let chose = c.next_task.new.self in (
      c.read_file.ensures.0,
      joined it.plant.now.texts doings (kept_of it) (kept it.folders.now it.plant.now.waits chose.book) (kept_of c.read_file.new.self) [] []
          (beside it.plant.now.texts doings it.folders.now it.plant.now.waits it.plant.now.papers.book chose.book c.next_task.ensures.book) c.read_file.ensures.1,
    )

pub returns-in-Some-SeeToStray : goal.returns-in-Some-SeeToStray
returns-in-Some-SeeToStray g c =
    let it = c.args.self.now in
    let doings = g.F.Folders.doings in
    let w = it.plant.now.waits in
    let chose = c.next_task.new.self in
    let new = c.leave_stray.new.self in
    let last = c.leave_stray.new.folders in (
      (refl, refl),
      dealt it.plant.now.texts doings it.folders.now last w it.plant.now.papers.book new.book
          (deals_from it.plant.now.texts (doings it.folders.now) (doings last) w it.plant.now.papers.book chose.book new.book c.next_task.ensures.book
          (deals_looked it.plant.now.texts (doings it.folders.now) (doings last) w chose.book new.book c.leave_stray.ensures)),
    )

pub returns-in-Some-LookOn : goal.returns-in-Some-LookOn
returns-in-Some-LookOn g c =
    let it = c.args.self.now in
    let doings = g.F.Folders.doings in
    let w = it.plant.now.waits in
    let chose = c.next_task.new.self in
    let new = c.look_at_offers.new.self in
    let last = c.look_at_offers.new.folders in (
      (refl, refl),
      dealt it.plant.now.texts doings it.folders.now last w it.plant.now.papers.book new.book
          (deals_from it.plant.now.texts (doings it.folders.now) (doings last) w it.plant.now.papers.book chose.book new.book c.next_task.ensures.book
          (deals_looked it.plant.now.texts (doings it.folders.now) (doings last) w chose.book new.book c.look_at_offers.ensures)),
    )

pub returns-in-None : goal.returns-in-None
returns-in-None g c =
    let it = c.args.self.now in
    let chose = c.next_task.new.self in
    ((refl, refl), beside it.plant.now.texts g.F.Folders.doings it.folders.now it.plant.now.waits it.plant.now.papers.book chose.book c.next_task.ensures.book)
