use Rattle.std.proofs.Common.{subst}
use Rattle.rows_host_files.specs.Living.{AreInLife}
use Rattle.rows_host_files.proofs.opening.rows_at.Goals as goal

pub returns-in-Ok : goal.returns-in-Ok
returns-in-Ok g c = subst (λ i. AreInLife i c.args.given c.in-Ok.rows) c.in_ok-files.ensures.held (c.in-Ok.ensures c.in_ok-files.ensures.synced)
