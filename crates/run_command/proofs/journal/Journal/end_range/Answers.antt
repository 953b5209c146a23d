-- The file of a range left the offers, or not.
use Rattle.std.proofs.Common.{inr}
use Rattle.run_command.proofs.journal.Journal.end_range.Goals as goal

pub returns-then-is_done : goal.returns-then-is_done
returns-then-is_done g c = inr (_, c.set_aside-moved.ensures)
