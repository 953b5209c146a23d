use Rattle.std.proofs.Common.{sym, ◌∙◌}
use Rattle.rows_table.proofs.RisingLemmas.{listed}
use Rattle.rows_table.proofs.rising.are_rising.Goals as goal

pub returns-clause-table : goal.returns-clause-table
returns-clause-table c rises layout table listing = listed layout table c.args.rows.now (sym c.rise.ensures ∙ rises) listing
