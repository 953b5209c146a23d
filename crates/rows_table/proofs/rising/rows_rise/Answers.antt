use Rattle.rows_table.proofs.RiseLemmas.{rises}
use Rattle.rows_table.proofs.rising.rows_rise.Goals as goal

pub returns : goal.returns
returns c = rises
