-- The line is as it was written.
use Rattle.catch_up_log.proofs.line.CatchUpLineDisplay.fmt.Goals as goal

pub returns-in-Missing-clause-writes : goal.returns-in-Missing-clause-writes
returns-in-Missing-clause-writes g c = rw c.in-Missing.is c.write-in-Missing.ensures.writes
