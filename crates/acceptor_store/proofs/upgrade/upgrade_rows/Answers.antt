use Rattle.acceptor_store.proofs.upgrade.upgrade_rows.Goals as goal

pub returns-in-One : goal.returns-in-One
returns-in-One g c = rw c.in-One.is c.move_rows.ensures
