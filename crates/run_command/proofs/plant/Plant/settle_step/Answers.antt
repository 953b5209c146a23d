-- Where nothing was released, or a file waits, nothing was done with the folders.
use Rattle.std.proofs.Common.{refl}
use Rattle.run_command.proofs.Lives.{settled_beside}
use Rattle.run_command.proofs.plant.Plant.settle_step.Goals as goal

pub returns-in_default : goal.returns-in_default
returns-in_default g c = settled_beside _ _ _ _ refl refl refl refl

pub returns-then-is_filed : goal.returns-then-is_filed
returns-then-is_filed g c =
    record {
      settles = c.leave_all.ensures;
      none = λ full. absurd (full (c.is_filed.ensures.0 c.if-is_filed.true));
      waits = refl;
      texts = refl;
    }

pub returns-else-is_filed : goal.returns-else-is_filed
returns-else-is_filed g c = settled_beside _ _ _ _ refl refl refl refl
