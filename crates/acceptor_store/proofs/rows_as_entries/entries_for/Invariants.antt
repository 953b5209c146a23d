use Rattle.std.proofs.Common.{◌++◌, List, drop}
use Rattle.std.specs.List.{AllByRecursion}
use Rattle.rows_table.specs.declared.entry_table.EntryColumns.{EntryColumns}
use Rattle.rows_saved.specs.Saved.{HasPromise}
use Rattle.acceptor_store.specs.RowsAsEntries.{AreEntriesOf}
use Rattle.acceptor_store.proofs.rows_as_entries.entries_for.Given as goal

-- what is made and the entries of the rows that are left are the entries of all
abbrev pub invariant-loop-number : goal.invariant-loop-number
invariant-loop-number l =
    AllByRecursion (λ p. HasPromise p.1) (drop l.number-index l.items)
    × ((rest : List EntryColumns) → AreEntriesOf (drop l.number-index l.items) rest → AreEntriesOf l.items (l.entries.items ++ rest))
