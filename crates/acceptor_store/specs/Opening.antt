-- What is told of a database before its rows are taken up, and of a station's tables as they are made:
-- `old` is the state of its connection before the call, `new` after it. All of it is said where the disk returned what was written.
use Rattle.std.specs.Prelude.{◌≡◌, ◌≤◌, ◌⊎◌, ℕ, Option, Some, None, Result, IfOk, IfErr, OnOk, IsTrue, false}
use Rattle.sqlite_trees.specs.Tree.{Trees}
use Rattle.sqlite_trees.specs.View.{doubt}
use Rattle.sqlite.specs.State.{State, HasCleanDisk, IsUnchanged}
use Rattle.rows_table.specs.declared.layout.Layout.{Layout}
use Rattle.rows_table.specs.Tables.{layout_schema, layout_tree, no_schema}
use Rattle.rows_table.specs.Rows.{Serves, WasKept}
use Rattle.rows_table.specs.Reading.{KeepsTables}
use Rattle.rows_table.specs.Station.{HoldsNone}
use Rattle.rows_table.specs.declared.tables.StationColumns.{StationColumns}
use Rattle.rows_saved.specs.declared.identity.Identity.{Identity}
use Rattle.rows_saved.specs.declared.fault.RowsFault.{RowsFault}
use Rattle.rows_saved.specs.declared.fault.RowsFault.TheVariants.{WrongSchema}
use Rattle.acceptor_store.specs.StationRow.{stored_station, Agrees, IsStationOf}
use Rattle.acceptor_store.specs.Columns.{AreSound}
use Rattle.acceptor_store.specs.Sqlite.{HoldsRows, IsRefusal, RefusesRows, RefusesToOpen}

-- ---- a database that has the tables of a layout, whichever it is, and no others

-- an Ok tells the station that is stored, with the number of its layout
abbrev pub TellsStation : {E : Type 0} → Result (ℕ × Identity) E → State → State → Type 0
TellsStation result old new =
    HasCleanDisk new → (layout : Layout) → old.now.schema ≡ layout_schema layout → IfOk result (λ s. stored_station old.now.trees ≡ Some s)

-- a refusal speaks of no row, or says that no station is stored
abbrev pub TellsNoStation : {A : Type 0} → Result A RowsFault → State → State → Type 0
TellsNoStation result old new =
    HasCleanDisk new → (layout : Layout) → old.now.schema ≡ layout_schema layout
    → IfErr result (λ fault. IsRefusal fault ⊎ ((fault ≡ WrongSchema) × (stored_station old.now.trees ≡ None)))

-- an Ok found a sound table of rows, and the row of this station, in the layout
abbrev pub FindsItsRows : {L E : Type 0} → Result (L × Identity) E → State → State → Type 0
FindsItsRows result old new =
    HasCleanDisk new → (layout : Layout) → old.now.schema ≡ layout_schema layout → IfOk result (λ s. HoldsRows layout s.1 old.now.trees)

-- outside a transaction, with nothing to commit, the connection serves after an Ok
abbrev pub ServesOnceOpened : {A E : Type 0} → Result A E → State → State → Type 0
ServesOnceOpened result old new =
    HasCleanDisk new → (layout : Layout) → old.now.schema ≡ layout_schema layout → old.in_transaction ≡ false
    → (IsTrue old.is_open → old.now ≡ old.committed) → OnOk result (Serves layout new)

-- an Ok changes nothing
abbrev pub LeavesUnchanged : {A E : Type 0} → Result A E → State → State → Type 0
LeavesUnchanged result old new = HasCleanDisk new → (layout : Layout) → old.now.schema ≡ layout_schema layout → OnOk result (IsUnchanged old new)

-- whatever the answer, all is kept while the connection is open, where there was nothing to commit
abbrev pub KeepsCommitted : State → State → Type 0
KeepsCommitted old new =
    HasCleanDisk new → (layout : Layout) → old.now.schema ≡ layout_schema layout
    → (IsTrue old.is_open → old.now ≡ old.committed) → IsTrue new.is_open → WasKept old new

-- and there is nothing to commit then either
abbrev pub KeepsAtRest : State → State → Type 0
KeepsAtRest old new =
    HasCleanDisk new → (layout : Layout) → old.now.schema ≡ layout_schema layout
    → (IsTrue old.is_open → old.now ≡ old.committed) → IsTrue new.is_open → WasKept old new × (new.now ≡ new.committed)

-- while the connection is open it has what it had
abbrev pub StaysUnwritten : State → State → Type 0
StaysUnwritten old new =
    HasCleanDisk new → (layout : Layout) → old.now.schema ≡ layout_schema layout → IsTrue new.is_open → new.now ≡ old.now

-- a crash leaves nothing that it could not have left before
abbrev pub LeavesNothingNew : State → State → Type 0
LeavesNothingNew old new =
    HasCleanDisk new → (layout : Layout) → old.now.schema ≡ layout_schema layout → (db : Trees) → new.may_leave db → old.may_leave db

-- this fault is a reason not to take it up for the station that is given, if any
abbrev pub IsReasonToRefuse : Option Identity → RowsFault → State → State → Type 0
IsReasonToRefuse given fault old new =
    HasCleanDisk new → (layout : Layout) → old.now.schema ≡ layout_schema layout → RefusesToOpen layout given old.now.trees fault

-- the fault of a refusal is such a reason
abbrev pub RefusesForReason : {A : Type 0} → Option Identity → Result A RowsFault → State → State → Type 0
RefusesForReason given result old new =
    HasCleanDisk new → (layout : Layout) → old.now.schema ≡ layout_schema layout → IfErr result (RefusesToOpen layout given old.now.trees)

-- a reading of the row of the station
pub record ReadsIdentity (result : Result (ℕ × Identity) RowsFault) (old new : State) : Type 0 where
  pub stored : TellsStation result old new
  pub refuses : TellsNoStation result old new
  pub unchanged : LeavesUnchanged result old new
  pub rests : KeepsAtRest old new
  -- no transaction begins
  pub alone : old.in_transaction ≡ false → new.in_transaction ≡ false
  pub leaves : LeavesNothingNew old new
  -- no fault of the disk is forgotten
  pub clean : doubt old.is_clean ≤ doubt new.is_clean

-- an Ok tells the layout of the tables
abbrev pub TellsLayout : {A E : Type 0} → Result (Layout × A) E → State → Type 0
TellsLayout result old = (layout : Layout) → old.now.schema ≡ layout_schema layout → IfOk result (λ s. s.0 ≡ layout)

-- the tests of a database before its rows are taken up for the station that is given, if any: an Ok has its layout and its station
pub record TestsDatabase (given : Option Identity) (result : Result (Layout × Identity) RowsFault) (old new : State) : Type 0 where
  pub laid : TellsLayout result old
  pub holds : FindsItsRows result old new
  pub serves : ServesOnceOpened result old new
  pub agrees : IfOk result (λ s. Agrees given s.1)
  pub refuses : RefusesForReason given result old new
  pub unchanged : LeavesUnchanged result old new
  pub kept : KeepsCommitted old new
  pub leaves : LeavesNothingNew old new
  -- no fault of the disk is forgotten
  pub clean : doubt old.is_clean ≤ doubt new.is_clean

-- ---- a database that has the tables of this layout, and no others

-- an Ok gives the station that is stored, in this layout
abbrev pub ReadsStoredStation : {E : Type 0} → Layout → Result Identity E → State → State → Type 0
ReadsStoredStation layout result old new =
    HasCleanDisk new → old.now.schema ≡ layout_schema layout → IfOk result (λ i. IsStationOf layout i old.now.trees)

-- the fault of a refusal is a reason not to take it up for the station that is given, if any
abbrev pub RefusesStationForReason : {A : Type 0} → Layout → Option Identity → Result A RowsFault → State → State → Type 0
RefusesStationForReason layout given result old new =
    HasCleanDisk new → old.now.schema ≡ layout_schema layout → IfErr result (RefusesToOpen layout given old.now.trees)

-- an Ok found each row sound
abbrev pub FindsRowsSound : {A E : Type 0} → Layout → Result A E → State → State → Type 0
FindsRowsSound layout result old new =
    HasCleanDisk new → old.now.schema ≡ layout_schema layout → OnOk result (AreSound layout (old.now.trees (layout_tree layout)))

-- outside a transaction, with nothing to commit, the connection serves after an Ok
abbrev pub ServesOnceTested : {A E : Type 0} → Layout → Result A E → State → State → Type 0
ServesOnceTested layout result old new =
    HasCleanDisk new → old.now.schema ≡ layout_schema layout → old.in_transaction ≡ false
    → (IsTrue old.is_open → old.now ≡ old.committed) → OnOk result (Serves layout new)

-- the fault of a refusal is a reason not to take up its rows
abbrev pub RefusesRowsForReason : {A : Type 0} → Layout → Result A RowsFault → State → State → Type 0
RefusesRowsForReason layout result old new =
    HasCleanDisk new → old.now.schema ≡ layout_schema layout → IfErr result (RefusesRows layout old.now.trees)

-- a reading of the station that the rows belong to, which is to be the one that is given, if any
pub record ReadsStation (layout : Layout) (given : Option Identity) (result : Result Identity RowsFault) (old new : State) : Type 0 where
  pub stored : ReadsStoredStation layout result old new
  pub agrees : IfOk result (Agrees given)
  pub refuses : RefusesStationForReason layout given result old new
  pub tables : KeepsTables layout result old new

-- a test of all its rows
pub record TestsRows {A : Type 0} (layout : Layout) (result : Result A RowsFault) (old new : State) : Type 0 where
  pub sound : FindsRowsSound layout result old new
  pub serves : ServesOnceTested layout result old new
  pub refuses : RefusesRowsForReason layout result old new
  pub tables : KeepsTables layout result old new

-- ---- a database that is empty

-- the columns of this station
abbrev pub columns_of_station : Identity → StationColumns
columns_of_station i = record { circuit = i.circuit; member = i.member; members = i.members }

-- a crash leaves what it could have left before, or these tables with the station and no row
abbrev pub MakesAllOrNothing : Layout → Identity → State → State → Type 0
MakesAllOrNothing layout i old new =
    HasCleanDisk new → old.now.schema ≡ no_schema
    → (db : Trees) → new.may_leave db → old.may_leave db ⊎ HoldsNone layout i.circuit i.member i.members db

-- ---- any database

-- while the connection is open it has what it had
abbrev pub HasWhatItHad : State → State → Type 0
HasWhatItHad old new = HasCleanDisk new → IsTrue new.is_open → new.now ≡ old.now
