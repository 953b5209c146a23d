use Rattle.std.proofs.Common.{◌≡◌}
use Rattle.sqlite.specs.Held.{state}
use Rattle.rows_table.proofs.AddingLemmas.{Added}
use Rattle.rows_table.proofs.entry_table.add_entries.Given as goal

abbrev pub invariant-loop-entry : goal.invariant-loop-entry
invariant-loop-entry g l = (l.tx.conn.ghost_name ≡ l.fn.tx.conn.ghost_name) × Added l.entries l.entry-index (state g.S.Store l.fn.tx.conn.now) (state g.S.Store l.tx.conn.now)
