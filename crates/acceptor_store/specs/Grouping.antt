-- Rows that are saved together, in one transaction: `old` is the state of the connection before a call, `new` after it.
-- All of it is said where the disk returned what was written.
use Rattle.std.specs.Prelude.{◌≡◌, ◌⊎◌, ◌≤◌, ℕ, List, [], ◌∷◌, Result, IfErr, OnOk, IsTrue, false}
use Rattle.sqlite_trees.specs.declared.store.Store.{Ghosts}
use Rattle.sqlite_trees.specs.Tree.{Trees}
use Rattle.sqlite_trees.specs.View.{doubt}
use Rattle.sqlite.specs.State.{State, HasCleanDisk}
use Rattle.sqlite.specs.declared.transaction.Transaction.{Transaction}
use Rattle.rows_table.specs.declared.layout.Layout.{Layout}
use Rattle.rows_table.specs.declared.layout.LayoutOrigin.{LayoutOrigin}
use Rattle.rows_table.specs.Tables.{layout_schema, layout_tree}
use Rattle.rows_table.specs.declared.layout.Layout.TheVariants.{Two}
use Rattle.rows_table.specs.Rows.{AreRows, SavesIn, Serves}
use Rattle.rows_table.specs.Keeping.{KeptWhereRefused}
use Rattle.rows_table.specs.Staging.{IsStaging}
use Rattle.rows_table.specs.Within.{ActsWithin, EndsWhole}
use Rattle.protocol.specs.Limits.{last_number}
use Rattle.protocol.specs.Rows.{Row}
use Rattle.rows_saved.specs.Saved.{Saved, HasPromise}
use Rattle.rows_saved.specs.Groups.{WithAll, IsAllOrNone}
use Rattle.acceptor_store.specs.Columns.{columns_for, ComesBack}
use Rattle.rows_saved.specs.declared.fault.RowsFault.{RowsFault}
use Rattle.acceptor_store.specs.Sqlite.{SqliteOf, IsKept, IsOpen, IsRefusal, LeavesItsStation, MayLeave, saved_of}

-- under a circuit number this row was put in the place of the one before, in columns out of which it comes back, and nothing else was changed
pub record PutsBack (layout : Layout) (number : ℕ) (row : Row) (old new : Trees) : Type 0 where
  pub low : 1 ≤ number
  pub high : number ≤ last_number
  pub promised : HasPromise row
  pub back : ComesBack layout row
  pub saved : SavesIn layout number (columns_for layout row) old new

-- so was each of these, one after the other
abbrev pub PutsEach : Layout → List (ℕ × Row) → Trees → Trees → Type 0
PutsEach layout [] old new = new ≡ old
PutsEach layout (p ∷ ps) old new = (mid : Trees) × PutsBack layout p.0 p.1 old mid × PutsEach layout ps mid new

-- ---- in a transaction, which stays open

-- it puts this row
abbrev pub StagesBack : Layout → ℕ → Row → State → State → Type 0
StagesBack layout number row old new = IsStaging layout old → IsStaging layout new × PutsBack layout number row old.now.trees new.now.trees

-- it puts this row into the table of entries, however the database came to it
abbrev pub StagesEntryBack : ℕ → Row → State → State → Type 0
StagesEntryBack number row old new = (origin : LayoutOrigin) → StagesBack (Two origin) number row old new

-- it puts each of these
abbrev pub StagesEach : Layout → List (ℕ × Row) → State → State → Type 0
StagesEach layout items old new = IsStaging layout old → IsStaging layout new × PutsEach layout items old.now.trees new.now.trees

-- an act on saved rows in a transaction, of which a refusal speaks of no row
pub record StagesRows {S A : Type 0} (g : Ghosts S) (Does : State → State → Type 0) (result : Result A RowsFault) (old new : Transaction S) : Type 0 where
  pub acts : ActsWithin g Does result old new
  pub refusal : IfErr result IsRefusal

-- ---- in a transaction of its own

-- the tables are those of a layout, and its rows are rows
pub record HasLayout (layout : Layout) (s : State) : Type 0 where
  pub schema : s.now.schema ≡ layout_schema layout
  pub rows : AreRows (s.now.trees (layout_tree layout))

-- each of these was put, and that is committed
pub record WereCommitted (layout : Layout) (items : List (ℕ × Row)) (old new : State) : Type 0 where
  pub is_open : IsTrue new.is_open
  pub alone : new.in_transaction ≡ false
  pub settled : new.committed ≡ new.now
  pub has : HasLayout layout new
  pub puts : PutsEach layout items old.now.trees new.now.trees

-- an Ok has put each and committed that
abbrev pub CommitsEach : {A E : Type 0} → Layout → List (ℕ × Row) → Result A E → State → State → Type 0
CommitsEach layout items result old new = HasCleanDisk new → HasLayout layout old → OnOk result (WereCommitted layout items old new)

-- and found the connection open
abbrev pub WasOpenWhereDone : {A E : Type 0} → Result A E → State → State → Type 0
WasOpenWhereDone result old new = HasCleanDisk new → OnOk result (IsTrue old.is_open)

-- however it ends, a crash leaves what it could have left before, or that with each of them
abbrev pub CrashesWithAllOrNone : Layout → List (ℕ × Row) → State → State → Type 0
CrashesWithAllOrNone layout items old new =
    HasCleanDisk new → HasLayout layout old → (db : Trees) → new.may_leave db → old.may_leave db ⊎ PutsEach layout items old.now.trees db

-- an act that puts each of these in one transaction: an Ok has committed them, and a refusal, which speaks of no row, undoes all
pub record PutsTogether {A : Type 0} (layout : Layout) (items : List (ℕ × Row)) (result : Result A RowsFault) (old new : State) : Type 0 where
  pub committed : CommitsEach layout items result old new
  pub opened : WasOpenWhereDone result old new
  pub crash : CrashesWithAllOrNone layout items old new
  -- no transaction is left
  pub ended : new.in_transaction ≡ false
  pub ends : EndsWhole result old new
  pub refusal : IfErr result IsRefusal

-- ---- of a connection that serves

-- each was saved, and a crash leaves all of them
pub record WereSaved (layout : Layout) (items : List (ℕ × Row)) (old new : State) : Type 0 where
  pub was_open : IsTrue old.is_open
  pub is_open : IsTrue new.is_open
  pub puts : PutsEach layout items old.now.trees new.now.trees
  pub crash : (db : Trees) → new.may_leave db → db ≡ new.now.trees

-- an Ok has saved each
abbrev pub SavesEach : {A E : Type 0} → Layout → List (ℕ × Row) → Result A E → State → State → Type 0
SavesEach layout items result old new = Serves layout old → HasCleanDisk new → OnOk result (WereSaved layout items old new)

-- a crash leaves what was there, or that with each of them
abbrev pub CrashesWithEach : Layout → List (ℕ × Row) → State → State → Type 0
CrashesWithEach layout items old new =
    Serves layout old → HasCleanDisk new → IsTrue old.is_open
    → (db : Trees) → new.may_leave db → (db ≡ old.now.trees) ⊎ PutsEach layout items old.now.trees db

-- an act that saves each of these or none: a refusal, which speaks of no row, has changed nothing
pub record SavesTogether {A : Type 0} (layout : Layout) (items : List (ℕ × Row)) (result : Result A RowsFault) (old new : State) : Type 0 where
  pub serves : Serves layout old → Serves layout new
  pub saved : SavesEach layout items result old new
  pub err : KeptWhereRefused layout result old new
  pub crash : CrashesWithEach layout items old new
  -- no fault of the disk is forgotten
  pub clean : doubt old.is_clean ≤ doubt new.is_clean
  pub refusal : IfErr result IsRefusal

-- ---- of rows in a database

module _ {S : Type 0} (g : Ghosts S) where
  -- a failure has shut the connection, or none of these is saved, or all are
  abbrev pub HoldsAllOrNone : List (ℕ × Row) → SqliteOf S → SqliteOf S → Type 0
  HoldsAllOrNone items old new = (¬ IsOpen g new) ⊎ IsAllOrNone (saved_of g old) items (saved_of g new)

  -- a crash leaves the rows with all of these
  abbrev pub LeavesWithAll : List (ℕ × Row) → SqliteOf S → SqliteOf S → Type 0
  LeavesWithAll items old new = (left : Saved) → MayLeave g new left → WithAll (saved_of g old) items left

  -- of open rows that were not stopped, a crash leaves the rows as they were, or with all of these
  abbrev pub LeavesAllOrNone : List (ℕ × Row) → SqliteOf S → SqliteOf S → Type 0
  LeavesAllOrNone items old new =
      IsOpen g old → old.stopped ≡ false → (left : Saved) → MayLeave g new left → IsAllOrNone (saved_of g old) items left

  -- an Ok of a save of all of these shows: it stops and shuts nothing, and a crash leaves all of these
  abbrev pub ShowsAllSaved : SqliteOf S → SqliteOf S → List (ℕ × Row) → Type 0
  ShowsAllSaved old new items =
      (new.stopped ≡ old.stopped) × (IsKept g new → IsOpen g old → IsOpen g new) × (IsKept g new → LeavesWithAll items old new)

  -- however it ends, it leaves the station and its layout, and a crash none of these or all, and a database of the station
  abbrev pub LeavesTogether : SqliteOf S → SqliteOf S → List (ℕ × Row) → Type 0
  LeavesTogether old new items =
      (new.identity ≡ old.identity) × (new.layout ≡ old.layout)
      × (IsKept g new → LeavesAllOrNone items old new × LeavesItsStation g old new)
