-- What was told of it.
use Rattle.std.proofs.Common.{sym, ◌∙◌}
use Rattle.run_command.proofs.plant.Papers.tell_moved.Goals as goal

pub returns-in-Ok : goal.returns-in-Ok
returns-in-Ok g c = rw c.in-Ok.is (rw (sym c.as_str-name.ensures.value) c.refused.ensures)

pub returns-then-is_to_be_told : goal.returns-then-is_to_be_told
returns-then-is_to_be_told g c =
    rw c.in-Err.is (rw (sym c.as_str-name.ensures.value) (λ told. c.stuck.ensures, λ silent. absurd (silent (sym c.is_to_be_told.ensures ∙ c.if-is_to_be_told.true))))
