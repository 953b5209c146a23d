-- One step after the other.
use Rattle.run_command.proofs.Lives.{settled_none, settled_then}
use Rattle.run_command.proofs.plant.Plant.settle_each.Goals as goal

pub loop-step-init : goal.loop-step-init
loop-step-init g c = record { settled = settled_none _ _ }

pub loop-step-preserved : goal.loop-step-preserved
loop-step-preserved g c = record { settled = settled_then _ _ _ _ _ _ c.loop-step.invariant.settled c.settle_step.ensures }
