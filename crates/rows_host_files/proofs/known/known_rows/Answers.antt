use Rattle.acceptor_store.specs.Sqlite.{saved_of}
use Rattle.rows_host_files.proofs.Collected.{all_came, known}
use Rattle.rows_host_files.proofs.known.known_rows.Goals as goal

pub returns-in-Ok-visit-clause-known : goal.returns-in-Ok-visit-clause-known
returns-in-Ok-visit-clause-known g c kept =
    let sees = c.in-Ok-visit.ensures.rows kept (all_came c.in-Ok-visit.field-0 c.in-Ok-visit.ensures.enough) in
    known (saved_of g.S.Store c.args.rows.now) c.in-Ok.collector.known c.visit.new.visitor.known sees.0 c.in-Ok.ensures.rows c.in-Ok.ensures.votes sees.1 sees.2
