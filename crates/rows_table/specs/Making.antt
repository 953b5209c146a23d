-- What an act makes of a database: `old` is the state of the connection before it, `new` after it. All is said where the disk returned what was written.
use Rattle.std.specs.Prelude.{◌≡◌, ◌⊎◌, List, [], Result, OnOk, IsTrue}
use Rattle.sqlite_value.specs.Order.{Row}
use Rattle.sqlite_trees.specs.Tree.{Trees, put_row}
use Rattle.sqlite.specs.State.{State, HasCleanDisk}
use Rattle.rows_table.specs.Tables.{Layout, LayoutOrigin, no_schema, station_schema, row_schema, schema_before, station_tree}
use Rattle.rows_table.specs.declared.layout.Layout.TheVariants.{One}
use Rattle.rows_table.specs.declared.layout.LayoutOrigin.TheVariants.{Upgraded}
use Rattle.rows_table.specs.Rows.{Serves}
use Rattle.rows_table.specs.Station.{HoldsNone, HasTables, HasAll, WasMade}
use Rattle.rows_table.specs.Entries.{HasEntries, HasLayoutOne, HasUpgraded, IsUpgraded, WasUpgraded, entry_row, with_entries}
use Rattle.rows_table.specs.Within.{EndsWhole}
use Rattle.rows_table.specs.declared.entry_table.EntryColumns.{EntryColumns}
use Rattle.rows_table.specs.declared.tables.StationColumns.{StationColumns}

-- ---- what an act does in a transaction

-- in an empty database it makes the table of the station, which has no row yet
abbrev pub MakesStationTable : State → State → Type 0
MakesStationTable old new = IsTrue old.in_transaction → old.now.schema ≡ no_schema → (new.now.schema ≡ station_schema) × (new.now.trees station_tree ≡ [])

-- beside the table of the station, which is empty, it makes the table of rows
abbrev pub MakesRowTable : State → State → Type 0
MakesRowTable old new = IsTrue old.in_transaction → old.now.schema ≡ station_schema → old.now.trees station_tree ≡ [] → HasTables One new

-- beside the tables that are there, it makes the table of entries
abbrev pub MakesEntryTable : State → State → Type 0
MakesEntryTable old new = IsTrue old.in_transaction → (origin : LayoutOrigin) → old.now.schema ≡ schema_before origin → HasEntries origin old.now.trees [] new

-- on the tables of the layout, it adds the row of the station
abbrev pub AddsStation : Layout → StationColumns → State → State → Type 0
AddsStation layout s old new = HasTables layout old → HasAll layout s.circuit s.member s.members new

-- in an empty database, it makes the tables of the layout, with the row of the station
abbrev pub MakesLayout : Layout → StationColumns → State → State → Type 0
MakesLayout layout s old new = IsTrue old.in_transaction → old.now.schema ≡ no_schema → HasAll layout s.circuit s.member s.members new

-- it puts this entry into the table of entries
abbrev pub AddsEntry : EntryColumns → State → State → Type 0
AddsEntry entry old new = (origin : LayoutOrigin) (before : Trees) (rows : List Row) → HasEntries origin before rows old → HasEntries origin before (put_row (entry_row entry) rows) new

-- it puts these into it
abbrev pub AddsEntries : List EntryColumns → State → State → Type 0
AddsEntries entries old new = (origin : LayoutOrigin) (before : Trees) (rows : List Row) → HasEntries origin before rows old → HasEntries origin before (with_entries entries rows) new

-- of a database of layout 1 beside whose tables that of entries was made, it sets the layout to 2
abbrev pub SetsLayout : State → State → Type 0
SetsLayout old new = (before : Trees) (rows : List Row) → HasEntries Upgraded before rows old → HasLayoutOne before → HasUpgraded before rows new

-- of a database of layout 1, it makes the table of entries, with these in it, and sets the layout
abbrev pub MovesToEntries : List EntryColumns → State → State → Type 0
MovesToEntries entries old new = IsTrue old.in_transaction → old.now.schema ≡ row_schema → HasLayoutOne old.now.trees → HasUpgraded old.now.trees (with_entries entries []) new

-- ---- in a transaction of its own

-- in an empty database, an Ok has made and committed the tables of the layout, with the row of the station
pub record CommitsTables {A E : Type 0} (layout : Layout) (s : StationColumns) (result : Result A E) (old new : State) : Type 0 where
  pub made : HasCleanDisk new → old.now.schema ≡ no_schema → OnOk result (WasMade layout s.circuit s.member s.members new)
  -- it serves
  pub serves : old.now.schema ≡ no_schema → HasCleanDisk new → OnOk result (Serves layout new)
  -- and a crash leaves all of it
  pub lasting : HasCleanDisk new → old.now.schema ≡ no_schema → OnOk result ((db : Trees) → new.may_leave db → HoldsNone layout s.circuit s.member s.members db)
  -- however it ends, a crash leaves what it could have left before, or all of it
  pub crash : HasCleanDisk new → old.now.schema ≡ no_schema → (db : Trees) → new.may_leave db → old.may_leave db ⊎ HoldsNone layout s.circuit s.member s.members db
  pub ends : EndsWhole result old new

-- of a database of layout 1, an Ok has upgraded it, with these entries, and has committed that
pub record UpgradesTables {A E : Type 0} (entries : List EntryColumns) (result : Result A E) (old new : State) : Type 0 where
  pub upgraded : HasCleanDisk new → old.now.schema ≡ row_schema → HasLayoutOne old.now.trees → OnOk result (WasUpgraded old.now.trees (with_entries entries []) new)
  -- however it ends, a crash leaves what it could have left before, or the database upgraded
  pub crash : HasCleanDisk new → old.now.schema ≡ row_schema → HasLayoutOne old.now.trees → (db : Trees) → new.may_leave db
      → old.may_leave db ⊎ IsUpgraded old.now.trees (with_entries entries []) db
  pub ends : EndsWhole result old new
