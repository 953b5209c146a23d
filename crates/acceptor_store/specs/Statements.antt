-- What the statements on the table of a layout give, and what a crash in one leaves: `old` is the state of the connection before the call, `new` after it.
-- All of it is said where the disk returned what was written.
use Rattle.std.specs.Prelude.{◌≡◌, ◌⊎◌, ◌≤◌, ℕ, Result, IfOk, IfErr, OnOk, IsTrue}
use Rattle.std.specs.List.{AllByRecursion}
use Rattle.std.specs.declared.vec.Vec.{Vec}
use Rattle.std.specs.Global.{Global}
use Rattle.sqlite_trees.specs.Tree.{Trees}
use Rattle.sqlite_trees.specs.View.{doubt}
use Rattle.sqlite.specs.State.{State, HasCleanDisk}
use Rattle.rows_table.specs.declared.layout.Layout.{Layout}
use Rattle.rows_table.specs.Rows.{Serves, SavesIn}
use Rattle.rows_table.specs.Reading.{KeepsServing}
use Rattle.rows_table.specs.Keeping.{KeptWhereRefused, SavesRow}
use Rattle.protocol.specs.Rows.{Row}
use Rattle.protocol.specs.Versions.{Version}
use Rattle.rows_saved.specs.Saved.{IsListOf, HasPromise, RowFits, AreFitting}
use Rattle.rows_saved.specs.declared.fault.RowsFault.{RowsFault}
use Rattle.acceptor_store.specs.Columns.{columns_for, saved_in, version_in, ComesBack}
use Rattle.acceptor_store.specs.Reading.{BlamesNoRow}
use Rattle.acceptor_store.specs.Sqlite.{IsRefusal}

-- a row that can be saved at this version: it has a promise, and the version has it
pub record CanBeSaved (version : Version) (row : Row) : Type 0 where
  pub promise : HasPromise row
  pub fits : RowFits version row

-- ---- of a connection that serves

-- an Ok gives the row of this number, blank where none is saved
pub record ReadsSaved (layout : Layout) (number : ℕ) (result : Result Row RowsFault) (old new : State) : Type 0 where
  pub row : Serves layout old → HasCleanDisk new → IfOk result (λ r. r ≡ saved_in layout old.now.trees number)
  -- the version of the layout has it
  pub fits : IfOk result (RowFits (version_in layout))
  pub serving : KeepsServing layout result old new
  -- sound rows are not damaged
  pub refusal : BlamesNoRow layout result old new

-- an Ok gives all rows that are saved, in order of their numbers
pub record ListsSaved (layout : Layout) (result : Result (Vec (ℕ × Row) Global) RowsFault) (old new : State) : Type 0 where
  pub listed : Serves layout old → HasCleanDisk new → IfOk result (λ items. IsListOf (saved_in layout old.now.trees) items.items)
  pub promised : IfOk result (λ items. AllByRecursion (λ (p : ℕ × Row). HasPromise p.1) items.items)
  -- the version of the layout has each
  pub fits : IfOk result (λ items. AreFitting (version_in layout) items.items)
  pub serving : KeepsServing layout result old new
  -- sound rows are not damaged
  pub refusal : BlamesNoRow layout result old new

-- a crash leaves what was there, or that with the columns of this row, out of which it comes back
abbrev pub CrashesWithRow : Layout → ℕ → Row → State → State → Type 0
CrashesWithRow layout number row old new =
    Serves layout old → HasCleanDisk new → IsTrue old.is_open
    → (db : Trees) → new.may_leave db
    → (db ≡ old.now.trees) ⊎ (ComesBack layout row × SavesIn layout number (columns_for layout row) old.now.trees db)

-- an Ok has saved the columns of this row under this number, and a refusal has changed nothing
pub record Saves {A : Type 0} (layout : Layout) (number : ℕ) (row : Row) (result : Result A RowsFault) (old new : State) : Type 0 where
  pub serves : Serves layout old → Serves layout new
  pub saved : SavesRow layout number (columns_for layout row) result old new
  -- the columns are the row again
  pub back : OnOk result (ComesBack layout row)
  pub err : KeptWhereRefused layout result old new
  pub crash : CrashesWithRow layout number row old new
  -- no fault of the disk is forgotten
  pub clean : doubt old.is_clean ≤ doubt new.is_clean
  pub refusal : IfErr result IsRefusal
