use Rattle.acceptor_store.proofs.rows_at_path.rows_or_fault.Goals as goal

pub returns-in-Err-clause-fault : goal.returns-in-Err-clause-fault
returns-in-Err-clause-fault g c = (c.in-Err.conn, c.in-Err.ensures.refused)
