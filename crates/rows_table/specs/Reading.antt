-- What a reading gives, and what it leaves of a connection: `old` is the state before the call, `new` after it.
use Rattle.std.specs.Prelude.{◌≡◌, ◌≤◌, ℕ, Bool, List, map, option_to_list, IsPermutation, Result, IfOk, false}
use Rattle.std.specs.declared.vec.Vec.{Vec}
use Rattle.std.specs.Global.{Global}
use Rattle.sqlite_value.specs.Order.{Row}
use Rattle.sqlite_trees.specs.View.{doubt}
use Rattle.sqlite.specs.State.{State, HasCleanDisk}
use Rattle.rows_table.specs.Tables.{Layout, layout_schema, layout_tree, station_tree}
use Rattle.rows_table.specs.Rows.{IsListing, Serves, columns_at}
use Rattle.rows_table.specs.Station.{station_columns}
use Rattle.rows_table.specs.Cursor.{SeesFirstListed, SeesListing}
use Rattle.rows_table.specs.Keeping.{BeginsToServe, ChangesNothing, CrashesAsBefore, LeavesAsBefore, ShowsTables, StaysAtRest, StaysKept, StaysOpen}

-- what a reading leaves of a connection that serves
pub record KeepsServing {A E : Type 0} (layout : Layout) (result : Result A E) (old new : State) : Type 0 where
  pub serves : Serves layout old → Serves layout new
  pub opened : StaysOpen layout result old new
  pub same : StaysKept layout old new
  pub crash : CrashesAsBefore layout old new
  -- no fault of the disk is forgotten
  pub clean : doubt old.is_clean ≤ doubt new.is_clean

-- what a reading leaves of a connection on such tables, whether it serves or not
pub record KeepsTables {A E : Type 0} (layout : Layout) (result : Result A E) (old new : State) : Type 0 where
  pub unchanged : ChangesNothing layout result old new
  pub rests : StaysAtRest layout old new
  pub leaves : LeavesAsBefore layout old new
  -- no transaction begins
  pub alone : old.in_transaction ≡ false → new.in_transaction ≡ false
  pub clean : doubt old.is_clean ≤ doubt new.is_clean

-- what a reading of the whole table leaves of either
pub record ReadsTable {A E : Type 0} (layout : Layout) (result : Result A E) (old new : State) : Type 0 where
  pub serving : KeepsServing layout result old new
  pub tables : KeepsTables layout result old new
  pub at_rest : ShowsTables layout result old new
  pub begins : BeginsToServe layout result old new

-- an Ok has the columns that are saved under this number, if there are any
pub record FindsRow {E : Type 0} (layout : Layout) (number : ℕ) (result : Result (Vec Row Global) E) (old new : State) : Type 0 where
  pub found : Serves layout old → HasCleanDisk new → IfOk result (λ rows. rows.items ≡ option_to_list (columns_at layout (old.now.trees (layout_tree layout)) number))
  pub serving : KeepsServing layout result old new

-- an Ok has all rows, in the order of their numbers
pub record ListsRows {E : Type 0} (layout : Layout) (result : Result (Vec Row Global) E) (old new : State) : Type 0 where
  pub listed : HasCleanDisk new → old.now.schema ≡ layout_schema layout → IfOk result (λ rows. IsListing layout (old.now.trees (layout_tree layout)) rows.items)
  pub reads : ReadsTable layout result old new

-- the visitor has seen all rows, or the first of them where it has enough or the reading is refused
pub record HandsRows {T E : Type 0} (layout : Layout) (saw : T → T → List Row → Type 0) (has_enough : T → Type 0) (was now : T) (result : Result Bool E) (old new : State) : Type 0 where
  pub listed : SeesListing layout saw was now result old new
  -- where these were not all, it wanted no more
  pub enough : IfOk result (λ all. all ≡ false → has_enough now)
  -- however it ends, the visitor has seen the first of them, or is as it was
  pub front : SeesFirstListed layout saw was now old new
  -- it has seen some rows, and nothing else
  pub only : (rows : List Row) × saw was now rows
  pub reads : ReadsTable layout result old new

-- of a connection on the tables of any layout, an Ok has what each row of the station's table shows
pub record ReadsStation {E : Type 0} (result : Result (Vec Row Global) E) (old new : State) : Type 0 where
  pub listed : HasCleanDisk new → (layout : Layout) → old.now.schema ≡ layout_schema layout → IfOk result (λ rows. IsPermutation (map station_columns (old.now.trees station_tree)) rows.items)
  pub unchanged : (layout : Layout) → ChangesNothing layout result old new
  pub rests : (layout : Layout) → StaysAtRest layout old new
  pub leaves : (layout : Layout) → LeavesAsBefore layout old new
  -- no transaction begins
  pub alone : old.in_transaction ≡ false → new.in_transaction ≡ false
  pub clean : doubt old.is_clean ≤ doubt new.is_clean
