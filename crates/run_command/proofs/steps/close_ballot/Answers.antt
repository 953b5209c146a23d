-- The number is no longer under way.
use Rattle.offers.specs.declared.stage.Landing.TheVariants.{Ended, Nothing}
use Rattle.run_command.proofs.Looking.{follows_landed}
use Rattle.run_command.proofs.steps.close_ballot.Goals as goal

pub returns-in-GaveUp-clause-follows : goal.returns-in-GaveUp-clause-follows
returns-in-GaveUp-clause-follows c = follows_landed _ _ _ Ended _ c.ended.ensures.same

pub returns-in-Nothing-clause-follows : goal.returns-in-Nothing-clause-follows
returns-in-Nothing-clause-follows c = follows_landed _ _ _ Nothing _ c.found_nothing.ensures.same
