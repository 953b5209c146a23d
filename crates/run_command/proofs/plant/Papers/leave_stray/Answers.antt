-- A range is asked for, and nothing was done with files; or a file whose name asks for nothing left the offers, or not.
use Rattle.std.proofs.Common.{refl}
use Rattle.folders.specs.Doings.{moved_file}
use Rattle.folders.specs.declared.leaving.Place.TheVariants.{Refused}
use Rattle.run_command.proofs.Looking.{follows_same, looked_none, looks_may}
use Rattle.run_command.proofs.plant.Papers.leave_stray.Goals as goal

pub returns-then-ask_for_stray : goal.returns-then-ask_for_stray
returns-then-ask_for_stray g c = looked_none _ _ _ _ refl (follows_same _ _ refl)

pub returns-in_default : goal.returns-in_default
returns-in_default g c = looked_none _ _ _ _ refl (follows_same _ _ refl)

pub returns-in-Ok : goal.returns-in-Ok
returns-in-Ok g c = record { looks = looks_may _ _ (moved_file _ Refused) tt c.set_aside-moved.ensures; follows = follows_same _ _ refl }

pub returns-in-Err : goal.returns-in-Err
returns-in-Err g c = record { looks = looks_may _ _ (moved_file _ Refused) tt c.set_aside-moved.ensures; follows = follows_same _ _ refl }
