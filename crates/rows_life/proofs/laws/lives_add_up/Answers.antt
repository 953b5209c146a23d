use Rattle.rows_life.proofs.KeepingLemmas.{stands_still, stands_on}
use Rattle.rows_life.proofs.laws.lives_add_up.Goals as goal

pub returns : goal.returns
returns c = record { none = stands_still; more = stands_on }
