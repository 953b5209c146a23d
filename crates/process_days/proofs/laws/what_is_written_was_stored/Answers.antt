-- What was written is of what was stored.
use Rattle.process_days.proofs.Cutting.{written_is_stored}
use Rattle.process_days.proofs.laws.what_is_written_was_stored.Goals as goal

pub returns : goal.returns
returns c = written_is_stored
