-- The file was read, or is put off.
use Rattle.std.proofs.Common.{ap, refl}
use Rattle.folders.specs.declared.fault.FolderFault.{FolderFault}
use Rattle.offers.specs.Order.{rank}
use Rattle.offers.specs.Stages.{after, changed}
use Rattle.offers.specs.declared.stage.FileNews.TheVariants.{PutOff}
use Rattle.run_command.proofs.Looking.{deals_read, deals_looks, follows_of}
use Rattle.run_command.proofs.Lives.{dealt}
use Rattle.run_command.proofs.Wishes.{put_off_still}
use Rattle.run_command.proofs.desk.PlantDesk.read_file.Goals as goal

pub returns-then-replaced : goal.returns-then-replaced
returns-then-replaced g c =
    let it = c.args.self.now in
    let doings = g.F.Folders.doings in
    let last = c.read-read.new.folders in (
      (refl, refl),
      dealt it.plant.now.texts doings it.folders.now last it.plant.now.waits it.plant.now.papers.book c.was_read.new.self
          (deals_read it.plant.now.texts FolderFault (doings it.folders.now) (doings last) it.plant.now.waits c.args.found.now.request c.read-read.result c.in-Ok.wish it.plant.now.papers.book c.was_read.new.self c.in-Ok.is c.read-read.ensures
          (ap (λ b. b.files) c.was_read.ensures) (ap (λ b. b.released) c.was_read.ensures)),
    )

pub returns-else-replaced : goal.returns-else-replaced
returns-else-replaced g c =
    let it = c.args.self.now in
    let doings = g.F.Folders.doings in
    let last = c.read-read.new.folders in (
      (refl, refl),
      dealt it.plant.now.texts doings it.folders.now last it.plant.now.waits it.plant.now.papers.book c.was_read.new.self
          (deals_read it.plant.now.texts FolderFault (doings it.folders.now) (doings last) it.plant.now.waits c.args.found.now.request c.read-read.result c.in-Ok.wish it.plant.now.papers.book c.was_read.new.self c.in-Ok.is c.read-read.ensures
          (ap (λ b. b.files) c.was_read.ensures) (ap (λ b. b.released) c.was_read.ensures)),
    )

pub returns-in-Err : goal.returns-in-Err
returns-in-Err g c =
    let it = c.args.self.now in
    let doings = g.F.Folders.doings in
    let last = c.read-read.new.folders in
    let m = it.plant.now.papers.book in
    let new = c.could_not.new.self in
    let k = rank c.args.found.now.request in (
      (refl, refl),
      dealt it.plant.now.texts doings it.folders.now last it.plant.now.waits m new
          (deals_looks it.plant.now.texts (doings it.folders.now) (doings last) it.plant.now.waits _ m new c.read-read.ensures
          (follows_of m new (changed k (after PutOff c.args.now) m.files) (ap (λ b. b.files) c.could_not.ensures) (λ t shown h. put_off_still t shown k c.args.now m.files h) (ap (λ b. b.released) c.could_not.ensures))),
    )
