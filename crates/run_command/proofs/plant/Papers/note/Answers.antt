-- What became of the number of the step.
use Rattle.std.proofs.Common.{refl}
use Rattle.run_command.specs.Working.{Releases}
use Rattle.run_command.proofs.Looking.{follows_same, keeps_follows}
use Rattle.run_command.proofs.plant.Papers.note.Goals as goal

pub returns-in-None-None : goal.returns-in-None-None
returns-in-None-None g c = keeps_follows (Releases c.args.step.now.answer.release) _ _ (follows_same _ _ refl)
