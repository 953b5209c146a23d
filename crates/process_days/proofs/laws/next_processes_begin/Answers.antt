-- The day before goes on by an end at rest, and by a start.
use Rattle.process_days.proofs.Cutting.{next_processes_begin}
use Rattle.process_days.proofs.laws.next_processes_begin.Goals as goal

pub returns : goal.returns
returns g c = next_processes_begin g.R.Rows _
