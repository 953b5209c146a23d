-- What a statement that saves a row leaves of a connection that serves: `old` is its state before the call, `new` after it.
use Rattle.std.specs.Prelude.{◌≤◌, ℕ, option_map, Result}
use Rattle.sqlite_value.specs.Order.{Row}
use Rattle.sqlite_trees.specs.View.{doubt}
use Rattle.sqlite.specs.State.{State}
use Rattle.rows_table.specs.Tables.{Layout, LayoutOrigin}
use Rattle.rows_table.specs.declared.layout.Layout.TheVariants.{Two}
use Rattle.rows_table.specs.Rows.{Serves, columns_of}
use Rattle.rows_table.specs.Entries.{columns_of_entry}
use Rattle.rows_table.specs.Keeping.{CrashesAsSaved, KeptWhereRefused, SavesRow}
use Rattle.rows_table.specs.declared.entry_table.EntryColumns.{EntryColumns}
use Rattle.rows_table.specs.declared.puts.RowColumns.{RowColumns}

-- the columns of a row of layout 1
abbrev pub columns_of_row : RowColumns → Row
columns_of_row r = columns_of r.promised_round r.promised_owner (option_map (λ v. v.round) r.vote) (option_map (λ v. v.owner) r.vote) (option_map (λ v. v.tape.items) r.vote)

-- an Ok has saved this row; a refusal has changed nothing, and a crash leaves what was there, or that with this row
pub record PutsRow {A E : Type 0} (layout : Layout) (number : ℕ) (columns : Row) (result : Result A E) (old new : State) : Type 0 where
  pub serves : Serves layout old → Serves layout new
  pub saved : SavesRow layout number columns result old new
  pub err : KeptWhereRefused layout result old new
  pub crash : CrashesAsSaved layout number columns old new
  -- no fault of the disk is forgotten
  pub clean : doubt old.is_clean ≤ doubt new.is_clean

-- the same of an entry, in a database that was made or upgraded to hold it
abbrev pub PutsEntry : {A E : Type 0} → EntryColumns → Result A E → State → State → Type 0
PutsEntry entry result old new = (origin : LayoutOrigin) → PutsRow (Two origin) entry.number (columns_of_entry entry) result old new
