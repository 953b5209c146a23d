use Rattle.acceptor_store.proofs.sqlite_rows.SqliteRows.layout_stems.Goals as goal

pub returns : goal.returns
returns g c = rw (← c.self.view_is) c.self.invariant.0
