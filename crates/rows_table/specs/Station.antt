-- What the station table holds: one row, with the layout of the tables and which station the rows belong to.
use Rattle.std.specs.Prelude.{◌≡◌, ℕ, [], ◌∷◌, IsTrue, false}
use Rattle.sqlite_value.specs.declared.value.Value.TheVariants.{Null}
use Rattle.sqlite_value.specs.Order.{Row, column}
use Rattle.sqlite_trees.specs.Tree.{Trees}
use Rattle.sqlite_trees.specs.Objects.{catalog_tree}
use Rattle.sqlite_catalog.specs.Listing.{Lists}
use Rattle.sqlite.specs.State.{State}
use Rattle.rows_table.specs.Tables.{Layout, station_tree, layout_number, layout_tree, layout_schema}
use Rattle.rows_table.specs.Rows.{whole}

-- the row, as the table stores it, in this layout
abbrev pub station_row : Layout → ℕ → ℕ → ℕ → Row
station_row layout circuit member members = whole 1 ∷ Null ∷ whole (layout_number layout) ∷ whole circuit ∷ whole member ∷ whole members ∷ []

-- what a row shows: its key, the layout, the circuit, the member and how many members there are
abbrev pub station_columns : Row → Row
station_columns r = column r 0 ∷ column r 2 ∷ column r 3 ∷ column r 4 ∷ column r 5 ∷ []

-- the tables of the layout are there, and the catalog lists them, with no saved row and this station
pub record HoldsNone (layout : Layout) (circuit member members : ℕ) (trees : Trees) : Type 0 where
  pub rows : trees (layout_tree layout) ≡ []
  pub station : trees station_tree ≡ station_row layout circuit member members ∷ []
  pub tables : Lists (trees catalog_tree) (layout_schema layout)

-- in a transaction that has made the tables
pub record HasTables (layout : Layout) (new : State) : Type 0 where
  pub schema : new.now.schema ≡ layout_schema layout
  pub rows : new.now.trees (layout_tree layout) ≡ []
  pub station : new.now.trees station_tree ≡ []
  pub inside : IsTrue new.in_transaction

-- in a transaction that has made all
pub record HasAll (layout : Layout) (circuit member members : ℕ) (new : State) : Type 0 where
  pub schema : new.now.schema ≡ layout_schema layout
  pub holds : HoldsNone layout circuit member members new.now.trees
  pub inside : IsTrue new.in_transaction

-- all is made and committed, and the connection serves
pub record WasMade (layout : Layout) (circuit member members : ℕ) (new : State) : Type 0 where
  pub is_open : IsTrue new.is_open
  pub alone : new.in_transaction ≡ false
  pub schema : new.now.schema ≡ layout_schema layout
  pub settled : new.committed ≡ new.now
  pub holds : HoldsNone layout circuit member members new.now.trees
