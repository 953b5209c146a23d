-- The step was noted, or there was no memory for its files; nothing was done with the folders.
use Rattle.std.proofs.Common.{rules, ◌≡◌, inl, refl}
use Rattle.std.proofs.lemmas.Result.{err_from_is_err_and}
use Rattle.run_command.specs.Waiting.{with_release}
use Rattle.run_command.proofs.Lives.{noted, unnoted}
use Rattle.run_command.proofs.desk.PlantDeskDesk.note.Goals as goal

pub returns-clause-noted : goal.returns-clause-noted
returns-clause-noted g c =
    let it = c.args.self.now in
    let a = c.args.step.now.answer in
    let behind : c.keep.new.self ≡ with_release a.release it.plant.now.waits = search rules in
    record {
      ok = λ call may. (
        (refl, refl),
        noted it.plant.now.texts g.F.Folders.doings a it.folders.now it.plant.now.waits c.keep.new.self it.plant.now.papers.book c.note.new.self.book behind c.note.ensures call may,
      );
      err = tt;
      fault = tt;
    }

pub returns-in_err-keep-clause-noted : goal.returns-in_err-keep-clause-noted
returns-in_err-keep-clause-noted g c =
    let it = c.args.self.now in
    let p = err_from_is_err_and c.from_residual.result c.from_residual.ensures.1 in
    rw (p.1, p.2) (record {
      ok = tt;
      err = λ call may. (
        (refl, refl),
        unnoted it.plant.now.texts g.F.Folders.doings c.args.step.now.answer it.folders.now it.plant.now.waits c.keep.new.self it.plant.now.papers.book it.plant.now.papers.book call may,
      );
      fault = inl refl;
    })
