use Rattle.std.proofs.Common.{true, false, ap₂}
use Rattle.rows_host_files.proofs.LifeLemmas.{image, seen, fresh_is_settled}
use Rattle.rows_host_files.proofs.opening.files_at.Goals as goal

pub returns-in-Ok-clause-held : goal.returns-in-Ok-clause-held
returns-in-Ok-clause-held g c =
    let first = g.T.Start in
    let (log, db) = c.in-Ok.ensures.fresh in
    ap₂ image (ap₂ (seen first.log first.db) log.0 log.1) (ap₂ (seen first.log first.db) db.0 db.1)

pub returns-in-Ok-clause-synced : goal.returns-in-Ok-clause-synced
returns-in-Ok-clause-synced g c =
    let first = g.T.Start in
    let (log, db) = c.in-Ok.ensures.fresh in
    record { log = fresh_is_settled first.is_mixing first.log first.db _ true _ _ log.0 log.1; db = fresh_is_settled first.is_mixing first.log first.db _ false _ _ db.0 db.1 }
