-- What was written is the roll's one spelling.
use Rattle.rolls.proofs.Written.{is_spelled, is_only, is_long}
use Rattle.rolls.proofs.Again.{is_again}
use Rattle.rolls.proofs.writing.encode.Goals as goal

pub returns-clause-spelled : goal.returns-clause-spelled
returns-clause-spelled c = is_spelled _ _ c.written.ensures.exact c.written.ensures.range

pub returns-clause-only : goal.returns-clause-only
returns-clause-only c = is_only _ _ c.written.ensures.exact

pub returns-clause-again : goal.returns-clause-again
returns-clause-again c = is_again _ _ (returns-clause-spelled c)

pub returns-clause-len : goal.returns-clause-len
returns-clause-len c = is_long _ _ c.written.ensures.exact c.written.ensures.range
