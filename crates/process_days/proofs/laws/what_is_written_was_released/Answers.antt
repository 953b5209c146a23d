-- Each file is of an event of the log.
use Rattle.process_days.proofs.Filed.{written_is_filed}
use Rattle.process_days.proofs.laws.what_is_written_was_released.Goals as goal

pub returns : goal.returns
returns c = written_is_filed
