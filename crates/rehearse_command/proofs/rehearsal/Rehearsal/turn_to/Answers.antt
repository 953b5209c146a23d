-- On a stage that is set anew nothing was written, as on the one before.
use Rattle.std.proofs.Common.{◌≡◌, true, false}
use Rattle.rehearse_command.proofs.rehearsal.Rehearsal.turn_to.Goals as goal

pub returns-clause-goes_on : goal.returns-clause-goes_on
returns-clause-goes_on c = λ by start now set_up on.
    (c.in_ok-stage.ensures.stands by start now set_up (on.1 c.if-not-self.false), λ is. let no : false ≡ true = is in absurd cc)
