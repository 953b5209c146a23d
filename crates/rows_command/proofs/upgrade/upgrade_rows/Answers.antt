use Rattle.std.proofs.Common.{inr}
use Rattle.streams.proofs.Fronts.{front_of_all}
use Rattle.rows_command.proofs.upgrade.upgrade_rows.Goals as goal

pub returns-clause-front : goal.returns-clause-front
returns-clause-front g c = inr (c.in_default.ensures.two, front_of_all _ _ _ c.in_ok-put_whole.ensures.ok)
