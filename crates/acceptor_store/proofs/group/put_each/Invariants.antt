use Rattle.std.proofs.Common.{◌≡◌}
use Rattle.sqlite.specs.Held.{state}
use Rattle.acceptor_store.proofs.GroupLemmas.{Staged}
use Rattle.acceptor_store.proofs.group.put_each.Given as goal

abbrev pub invariant-loop-item : goal.invariant-loop-item
invariant-loop-item g l = (l.tx.conn.ghost_name ≡ l.fn.tx.conn.ghost_name) × Staged l.layout l.items l.item-index (state g.S.Store l.fn.tx.conn.now) (state g.S.Store l.tx.conn.now)
