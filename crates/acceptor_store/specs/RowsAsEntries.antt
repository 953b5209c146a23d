-- The rows of layout 1 as entries of layout 2: the map stays the same.
use Rattle.std.specs.Prelude.{◌≡◌, ◌≤◌, ℕ, List, []}
use Rattle.std.specs.List.{AllZip}
use Rattle.sqlite_value.specs.Order.{Row as Columns}
use Rattle.rows_table.specs.declared.layout.LayoutOrigin.TheVariants.{Upgraded}
use Rattle.rows_table.specs.declared.layout.Layout.TheVariants.{Two}
use Rattle.rows_table.specs.Rows.{stored, AreRows}
use Rattle.rows_table.specs.Entries.{entry_row, with_entries}
use Rattle.rows_table.specs.declared.entry_table.EntryColumns.{EntryColumns}
use Rattle.protocol.specs.Rows.{Row}
use Rattle.protocol.specs.Limits.{last_number}
use Rattle.rows_saved.specs.Saved.{Saved, SameRows, IsListOf}
use Rattle.acceptor_store.specs.Columns.{columns_for, ComesBack, saved_at, AreSound}

-- an entry is a circuit number with its row, in the columns of layout 2, out of which the row comes back
pub record IsEntryOf (item : ℕ × Row) (entry : EntryColumns) : Type 0 where
  pub low : 1 ≤ item.0
  pub high : item.0 ≤ last_number
  pub columns : entry_row entry ≡ stored item.0 (columns_for (Two Upgraded) item.1)
  pub back : ComesBack (Two Upgraded) item.1

-- the entries are these numbers and rows, in their order, each once
abbrev pub AreEntriesOf : List (ℕ × Row) → List EntryColumns → Type 0
AreEntriesOf items entries = AllZip IsEntryOf items entries

-- a table of entries holds this map: each number once, each row sound, and no other row
pub record HoldsMap (saved : Saved) (table : List Columns) : Type 0 where
  pub rows : AreRows table
  pub sound : AreSound (Two Upgraded) table
  pub same : SameRows saved (saved_at (Two Upgraded) table)

-- where these rows are the whole of a map, the table that the entries are put into, empty before, holds the same map
abbrev pub MovesMap : List (ℕ × Row) → List EntryColumns → Type 0
MovesMap items entries = (saved : Saved) → IsListOf saved items → HoldsMap saved (with_entries entries [])
