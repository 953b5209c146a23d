use Rattle.rows_table.proofs.RisingLemmas.{listed}
use Rattle.rows_table.proofs.rising.rising_is_listed.Goals as goal

pub returns : goal.returns
returns c layout table rows listing rises = listed layout table rows rises listing
