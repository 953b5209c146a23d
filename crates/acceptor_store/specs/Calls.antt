-- What a call on rows in a database leaves of them: `old` are the rows before the call, `new` after it.
use Rattle.std.specs.Prelude.{◌≡◌, ℕ, Result, Err, IfOk, IfErr, OnOk, OnErr, IsTrue}
use Rattle.std.specs.declared.vec.Vec.{Vec}
use Rattle.std.specs.Global.{Global}
use Rattle.sqlite_trees.specs.declared.store.Store.{Ghosts}
use Rattle.protocol.specs.Rows.{Row}
use Rattle.rows_saved.specs.Calls.{Answered}
use Rattle.rows_saved.specs.Saved.{SameRows, IsListOf, RowFits, AreFitting}
use Rattle.rows_saved.specs.declared.fault.RowsFault.{RowsFault}
use Rattle.rows_saved.specs.declared.fault.RowsFault.TheVariants.{Store}
use Rattle.rows_saved.specs.declared.rows.Rows as rows
use Rattle.acceptor_store.specs.Sqlite.{SqliteOf, AreLeftAsRead, Blames, IsHonest, IsKept, IsOpen, IsOurs, IsRefusal, LeavesInUpgrade, LeavesNoOther, rows_version, saved_of}

module _ {S : Type 0} (g : Ghosts S) where
  -- what is said of saved rows, of those in a database
  abbrev pub in_database : rows.Ghosts (SqliteOf S)
  in_database = record {
    made = λ s. IsOurs s.alone s.was s.found;
    honest = IsHonest g;
    kept = IsKept g;
    is_open = IsOpen g;
    saved = saved_of g;
    version = rows_version;
    refusals = λ s. s.refusals;
    alike = AreLeftAsRead g;
    passes = λ _ _. Unit {0};
    tells = λ _ _ _ _. Unit {0};
    upgrades = LeavesInUpgrade g;
    balks = LeavesInUpgrade g;
    shows = λ _ _. Unit {0};
    torn = λ _ _. Unit {0};
    blames = Blames g;
  }

  -- a call, however it is answered: what held as it ended held before
  pub record IsCalled {A : Type 0} (result : Result A RowsFault) (old new : SqliteOf S) : Type 0 where
    pub answered : Answered (IsKept g) (IsOpen g) (λ s. IsOurs s.alone s.was s.found) (λ s. s.refusals) (Blames g) result old new
    -- stopped rows refuse it
    pub stopped : IsTrue old.stopped → result ≡ Err Store
    -- what the store owes stays as it was
    pub ours : (new.alone ≡ old.alone) × (new.was ≡ old.was) × (new.found ≡ old.found)
    pub station : new.identity ≡ old.identity

  -- a reading leaves the rows as they were
  pub record Reads {A : Type 0} (result : Result A RowsFault) (old new : SqliteOf S) : Type 0 where
    pub call : IsCalled result old new
    pub same : IsKept g new → IsOpen g new → SameRows (saved_of g old) (saved_of g new)
    pub crash : IsKept g new → LeavesNoOther g old new
    -- it stops nothing
    pub stays : (new.stopped ≡ old.stopped) × (new.layout ≡ old.layout)

  -- an Ok gives the row of this number, and none is changed
  pub record GivesRow (number : ℕ) (result : Result Row RowsFault) (old new : SqliteOf S) : Type 0 where
    pub row : IsKept g new → IfOk result (λ r. r ≡ saved_of g old number)
    -- their version has it
    pub fits : IfOk result (RowFits (rows_version old))
    pub reads : Reads result old new

  -- an Ok gives all rows, in order of their numbers, and none is changed
  pub record GivesAll (result : Result (Vec (ℕ × Row) Global) RowsFault) (old new : SqliteOf S) : Type 0 where
    pub rows : IsKept g new → IfOk result (λ items. IsListOf (saved_of g old) items.items)
    -- their version has each
    pub fits : IfOk result (λ items. AreFitting (rows_version old) items.items)
    pub reads : Reads result old new

  -- a save stops the rows where it is refused, and leaves their layout
  pub record SavesOrStops {A : Type 0} (result : Result A RowsFault) (old new : SqliteOf S) : Type 0 where
    pub call : IsCalled result old new
    pub stops : OnErr result (IsTrue new.stopped)
    pub goes_on : OnOk result (new.stopped ≡ old.stopped)
    -- a refusal speaks of no row
    pub refusal : IfErr result IsRefusal
    pub layout : new.layout ≡ old.layout
