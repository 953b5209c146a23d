-- Without the text beside it, or its name, nothing is moved.
use Rattle.std.proofs.Common.{refl}
use Rattle.folders.specs.Doings.{moved_file}
use Rattle.run_command.specs.Departing.{place_of}
use Rattle.run_command.specs.Minding.{name_of}
use Rattle.run_command.proofs.Looking.{may_not}
use Rattle.run_command.proofs.plant.Papers.depart.Goals as goal

pub returns-in_err-text : goal.returns-in_err-text
returns-in_err-text g c =
    let a = g.F.Folders.doings c.args.folders.now in
    let d = c.args.departure.now in
    may_not a a (moved_file (name_of d.found.request) (place_of d.way)) refl

pub returns-in_err-name : goal.returns-in_err-name
returns-in_err-name g c =
    let a = g.F.Folders.doings c.args.folders.now in
    let d = c.args.departure.now in
    may_not a a (moved_file (name_of d.found.request) (place_of d.way)) refl
