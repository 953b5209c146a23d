use Rattle.acceptor_store.proofs.statements.save.Goals as goal

pub returns-in-One-clause-saves : goal.returns-in-One-clause-saves
returns-in-One-clause-saves g c = rw c.in-One.is c.save_row.ensures

pub returns-in-Two-clause-saves : goal.returns-in-Two-clause-saves
returns-in-Two-clause-saves g c = rw c.in-Two.is (c.save_entry.ensures c.in-Two.field-0)
