use Rattle.acceptor_store.proofs.sqlite_rows.SqliteRows.into_connection.Goals as goal

pub returns-clause-stands : goal.returns-clause-stands
returns-clause-stands g c = rw (← c.self.view_is) (λ running ours. c.self.invariant.1 running ours)
