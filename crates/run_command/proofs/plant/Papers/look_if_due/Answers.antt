-- Where it is not time for a look nothing was done.
use Rattle.std.proofs.Common.{refl}
use Rattle.run_command.proofs.Looking.{follows_same, looked_none}
use Rattle.run_command.proofs.plant.Papers.look_if_due.Goals as goal

pub returns-else-is_due : goal.returns-else-is_due
returns-else-is_due g c = looked_none _ _ _ _ refl (follows_same _ _ refl)
