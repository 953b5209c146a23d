-- Rows that are saved in a transaction, one after the other: `old` is the state of the connection before an act, `new` after it.
use Rattle.std.specs.Prelude.{◌≡◌, ℕ, IsTrue}
use Rattle.sqlite_value.specs.Order.{Row}
use Rattle.sqlite.specs.State.{State}
use Rattle.rows_table.specs.Tables.{Layout, LayoutOrigin, layout_schema, layout_tree}
use Rattle.rows_table.specs.declared.layout.Layout.TheVariants.{Two}
use Rattle.rows_table.specs.Rows.{AreRows, SavesIn}
use Rattle.rows_table.specs.Entries.{columns_of_entry}
use Rattle.rows_table.specs.declared.entry_table.EntryColumns.{EntryColumns}

-- a transaction is open on the tables of a layout, and its rows are rows
pub record IsStaging (layout : Layout) (s : State) : Type 0 where
  pub inside : IsTrue s.in_transaction
  pub schema : s.now.schema ≡ layout_schema layout
  pub rows : AreRows (s.now.trees (layout_tree layout))

-- in such a transaction, which stays open, this row is put in the place of the one that had its number
abbrev pub StagesRow : Layout → ℕ → Row → State → State → Type 0
StagesRow layout number columns old new = IsStaging layout old → IsStaging layout new × SavesIn layout number columns old.now.trees new.now.trees

-- this entry is
abbrev pub StagesEntry : EntryColumns → State → State → Type 0
StagesEntry entry old new = (origin : LayoutOrigin) → StagesRow (Two origin) entry.number (columns_of_entry entry) old new
