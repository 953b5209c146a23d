use Rattle.std.specs.Prelude.{refl}
use Rattle.rows_host_files.proofs.host_files.HostFilesRowFiles.open.Goals as goal

pub returns-clause-taken : goal.returns-clause-taken
returns-clause-taken c = record { done = record { in_life = c.in_ok-rows.ensures; wary = refl }; refused = tt }

pub returns-clause-open : goal.returns-clause-open
returns-clause-open c kept = c.in_ok-rows.ensures.taken.is_open kept.0 kept.1
