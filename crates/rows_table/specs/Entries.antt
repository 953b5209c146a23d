-- The table of entries, and what an upgrade makes of a database.
use Rattle.std.specs.Prelude.{◌≡◌, ◌<◌, ℕ, List, [], ◌∷◌, Option, option_map, IsTrue, false}
use Rattle.sqlite_value.specs.declared.value.Value.TheVariants.{Blob}
use Rattle.sqlite_value.specs.Order.{Row}
use Rattle.sqlite_trees.specs.Tree.{Trees, put_row}
use Rattle.sqlite_trees.specs.Objects.{catalog_tree}
use Rattle.sqlite_catalog.specs.Listing.{Lists}
use Rattle.sqlite.specs.State.{State}
use Rattle.sqlite.specs.Values.{or_null}
use Rattle.rows_table.specs.Tables.{LayoutOrigin, rows_tree, station_tree, entries_tree, entry_schema}
use Rattle.rows_table.specs.declared.layout.LayoutOrigin.TheVariants.{Upgraded}
use Rattle.rows_table.specs.declared.layout.Layout.TheVariants.{One, Two}
use Rattle.rows_table.specs.Rows.{whole, stored}
use Rattle.rows_table.specs.Station.{station_row, station_columns}
use Rattle.rows_table.specs.declared.entry_table.EntryColumns.{EntryColumns}

-- the columns beside the number: the promise, and the vote with the length of its entry and its packed frames
abbrev pub entry_columns : ℕ → ℕ → Option ℕ → Option ℕ → Option ℕ → Option (List ℕ) → Row
entry_columns promised_round promised_owner vote_round vote_owner frames packed =
    whole promised_round ∷ whole promised_owner ∷ or_null whole vote_round ∷ or_null whole vote_owner
    ∷ or_null whole frames ∷ or_null Blob packed ∷ []

-- the columns of an entry
abbrev pub columns_of_entry : EntryColumns → Row
columns_of_entry e =
    entry_columns e.promised_round e.promised_owner
    (option_map (λ v. v.round) e.vote) (option_map (λ v. v.owner) e.vote) (option_map (λ v. v.length) e.vote) (option_map (λ v. v.packed.items) e.vote)

-- an entry as the row that the table stores
abbrev pub entry_row : EntryColumns → Row
entry_row e = stored e.number (columns_of_entry e)

-- a table into which these entries were put, each at its number
abbrev pub with_entries : List EntryColumns → List Row → List Row
with_entries [] rows = rows
with_entries (e ∷ es) rows = with_entries es (put_row (entry_row e) rows)

-- a transaction is open, the table of entries has these rows, and each table that was made before it is as `before` has it
pub record HasEntries (origin : LayoutOrigin) (before : Trees) (rows : List Row) (new : State) : Type 0 where
  pub schema : new.now.schema ≡ entry_schema origin
  pub entries : new.now.trees (entries_tree origin) ≡ rows
  pub others : (tree : ℕ) → tree < entries_tree origin → new.now.trees tree ≡ before tree
  pub inside : IsTrue new.in_transaction

-- the table of the station has its one row, with its key, in layout 1
pub record HasLayoutOne (db : Trees) : Type 0 where
  pub circuit : ℕ
  pub member : ℕ
  pub members : ℕ
  pub row : Row
  pub station : db station_tree ≡ row ∷ []
  pub columns : station_columns row ≡ station_columns (station_row One circuit member members)

-- an upgraded database has these rows of entries, the table of rows as it was, and the same station, in layout 2; its catalog lists the three tables
pub record IsUpgraded (before : Trees) (rows : List Row) (db : Trees) : Type 0 where
  pub entries : db (entries_tree Upgraded) ≡ rows
  pub old_rows : db rows_tree ≡ before rows_tree
  pub was : HasLayoutOne before
  pub station : db station_tree ≡ station_row (Two Upgraded) was.circuit was.member was.members ∷ []
  pub tables : Lists (db catalog_tree) (entry_schema Upgraded)

-- a transaction is open that has upgraded the database
pub record HasUpgraded (before : Trees) (rows : List Row) (new : State) : Type 0 where
  pub schema : new.now.schema ≡ entry_schema Upgraded
  pub holds : IsUpgraded before rows new.now.trees
  pub inside : IsTrue new.in_transaction

-- the upgrade is committed, and no transaction is open
pub record WasUpgraded (before : Trees) (rows : List Row) (new : State) : Type 0 where
  pub is_open : IsTrue new.is_open
  pub alone : new.in_transaction ≡ false
  pub schema : new.now.schema ≡ entry_schema Upgraded
  pub settled : new.committed ≡ new.now
  pub holds : IsUpgraded before rows new.now.trees
