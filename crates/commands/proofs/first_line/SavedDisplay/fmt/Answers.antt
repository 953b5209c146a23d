-- What is written of numbers is written of what they are in.
use Rattle.commands.proofs.first_line.SavedDisplay.fmt.Goals as goal

pub returns-in-Numbers-clause-writes : goal.returns-in-Numbers-clause-writes
returns-in-Numbers-clause-writes g c = rw c.in-Numbers.is c.write-in-Numbers.ensures.writes
