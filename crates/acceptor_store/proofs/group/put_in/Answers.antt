use Rattle.acceptor_store.proofs.GroupLemmas.{entry_back}
use Rattle.acceptor_store.proofs.group.put_in.Goals as goal

pub returns-in-One : goal.returns-in-One
returns-in-One g c = rw c.in-One.is c.put_row.ensures

pub returns-in-Two : goal.returns-in-Two
returns-in-Two g c = rw c.in-Two.is (entry_back g.S.Store c.in-Two.field-0 _ _ _ _ _ c.put_entry.ensures)
