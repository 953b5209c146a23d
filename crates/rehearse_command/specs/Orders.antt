-- The steps that the lines of a script order.
use Rattle.std.specs.Prelude.{ℕ, Option, Some, None}
use Rattle.world.specs.declared.step.Step.{Step}
use Rattle.world.specs.declared.step.Step.TheVariants as steps
use Rattle.rehearse_command.specs.declared.script.Order.{Order}
use Rattle.rehearse_command.specs.declared.script.Order.TheVariants as orders

-- the step that is ordered at a moment; the lines that set the stage or the moment order none
abbrev pub step_of : Order → ℕ → Option Step
step_of (orders.Members count) now = None
step_of (orders.Wire version) now = None
step_of (orders.At moment) now = None
step_of (orders.Offer member number tape) now = Some (steps.Offer member number tape now)
step_of (orders.Withdraw member number) now = Some (steps.Withdraw member number now)
step_of (orders.Seek member number) now = Some (steps.Seek member number now)
step_of (orders.Due member) now = Some (steps.Due member now)
step_of (orders.Deliver k) now = Some (steps.Deliver k now)
step_of (orders.Restart member) now = Some (steps.Restart member)
step_of (orders.Upgrade member) now = Some (steps.Upgrade member)
step_of (orders.Balk member saved) now = Some (steps.Balk member saved)
step_of (orders.Recall member number to) now = Some (steps.Recall member number to)
