-- Rows that were taken up from a database, or made in one: `was` is the state of its connection before.
use Rattle.std.specs.Prelude.{◌≡◌, ◌≤◌, Option, Result, Err, IfOk, IfErr, IsTrue, true, false}
use Rattle.sqlite_trees.specs.declared.store.Store.{Ghosts}
use Rattle.sqlite_trees.specs.Tree.{Trees}
use Rattle.sqlite_trees.specs.View.{doubt}
use Rattle.sqlite.specs.State.{State, HasCleanDisk}
use Rattle.sqlite.specs.Held.{Held, state}
use Rattle.rows_table.specs.Tables.{layout_schema, no_schema}
use Rattle.protocol.specs.Versions.{Version}
use Rattle.tape_frames.specs.Entries.{version_of}
use Rattle.rows_saved.specs.Identity.{IsIdentity}
use Rattle.rows_saved.specs.Saved.{SameRows}
use Rattle.rows_saved.specs.declared.identity.Identity.{Identity}
use Rattle.rows_saved.specs.declared.fault.RowsFault.{RowsFault}
use Rattle.rows_saved.specs.declared.fault.RowsFault.TheVariants.{Store}
use Rattle.acceptor_store.specs.Columns.{saved_in}
use Rattle.acceptor_store.specs.FoundTables.{has_any, has_none, has_tables}
use Rattle.acceptor_store.specs.Faults.{rows_fault, IsOfMaking}
use Rattle.acceptor_store.specs.Layouts.{made_in}
use Rattle.acceptor_store.specs.StationRow.{IsStationOf}
use Rattle.acceptor_store.specs.declared.rows_at_path.Wanted.{Wanted}
use Rattle.acceptor_store.specs.declared.rows_at_path.Wanted.TheVariants.{Stored, Made}
use Rattle.acceptor_store.specs.declared.faults.FileFault.{FileFault}
use Rattle.acceptor_store.specs.declared.faults.FileFault.TheVariants as faults
use Rattle.acceptor_store.specs.Opening.{HasWhatItHad, IsReasonToRefuse, LeavesNothingNew, MakesAllOrNothing, StaysUnwritten}
use Rattle.acceptor_store.specs.Sqlite.{SqliteOf, Agrees, IsAtRest, IsKept, IsKeptAsFound, IsOpen, IsOurs, IsOursAsFound, IsRefusal, HoldsNoRow, LeavesNoRow, rows_version, saved_of}

module _ {S : Type 0} (g : Ghosts S) where
  -- they were taken up for the station that is given, if any: where they are kept, the rows and the station are those that were stored, and nothing is written
  pub record OpensAsStored (given : Option Identity) (was : State) (s : SqliteOf S) : Type 0 where
    pub is_open : IsKept g s → IsOpen g s
    pub rests : IsKept g s → IsAtRest g s
    pub same : IsKept g s → SameRows (saved_in s.was was.now.trees) (saved_of g s)
    pub unwritten : IsKept g s → (state g s.conn).now ≡ was.now
    pub agrees : Agrees given s.identity
    pub stored : IsKept g s → IsStationOf s.was s.identity was.now.trees
    pub tables : IsKept g s → was.now.schema ≡ layout_schema s.was
    pub fresh : s.layout ≡ s.was
    pub unstopped : s.stopped ≡ false
    pub clean : doubt was.is_clean ≤ doubt (state g s.conn).is_clean
    pub crash : IsKept g s → (left : Trees) → (state g s.conn).may_leave left → was.may_leave left
    pub ours : IsOursAsFound was s
    pub kept : IsKeptAsFound g was s

  -- their tables, none of which was there, were made for this station, at this version: where they are kept, they hold no row
  pub record IsMadeFor (i : Identity) (made_at : Version) (was : State) (s : SqliteOf S) : Type 0 where
    pub is_open : IsKept g s → IsOpen g s
    pub rests : IsKept g s → IsAtRest g s
    pub unmade : has_any was.now.schema ≡ false
    pub ours : was.now.schema ≡ no_schema → IsOurs s.alone s.was s.found
    pub blank : IsKept g s → HoldsNoRow g s
    pub identity : s.identity ≡ i
    pub layout : s.was ≡ made_in made_at
    pub fresh : s.layout ≡ s.was
    pub version : rows_version s ≡ made_at
    pub unstopped : s.stopped ≡ false
    pub clean : doubt was.is_clean ≤ doubt (state g s.conn).is_clean
    pub crash : IsKept g s → LeavesNoRow g (made_in made_at) i s
    -- with what the host owes they are kept
    pub kept : HasCleanDisk (state g s.conn) → was.now.schema ≡ no_schema → IsKept g s

  -- they are what was wanted of the database: taken up, or made
  abbrev pub AreAsWanted : Wanted → State → SqliteOf S → Type 0
  AreAsWanted (Stored given) was s = OpensAsStored given was s
  AreAsWanted (Made i version) was s = IsMadeFor i (version_of version) was s

-- tables are made for an identity alone
abbrev pub CanBeMade : Wanted → Type 0
CanBeMade (Stored given) = Unit {0}
CanBeMade (Made i version) = IsIdentity i

-- stored rows are not taken up for a reason, and nothing is written: `now` is the state of the connection as it comes back
pub record RefusesStored (given : Option Identity) (fault : RowsFault) (was : State) (now : State) : Type 0 where
  pub refuses : IsReasonToRefuse given fault was now
  pub unwritten : StaysUnwritten was now
  pub crash : LeavesNothingNew was now
  pub clean : doubt was.is_clean ≤ doubt now.is_clean

module _ {S : Type 0} (g : Ghosts S) where
  -- why stored rows are not taken up: there is no table of them, and the database comes back as it was, or they are refused
  abbrev pub TellsWhyUntaken : Option Identity → FileFault → Held S → Held S → Type 0
  TellsWhyUntaken given faults.Unmade was now = (has_none (state g was).now.schema ≡ true) × (now ≡ was)
  TellsWhyUntaken given (faults.Rows fault) was now = (has_none (state g was).now.schema ≡ false) × RefusesStored given fault (state g was) (state g now)
  TellsWhyUntaken given _ was now = ⊥

  -- tables are not made, and nothing is changed: where one of them was there, the database comes back as it was
  pub record RefusesToMake (i : Identity) (made_at : Version) (fault : RowsFault) (was now : Held S) : Type 0 where
    pub refusal : IsRefusal fault
    pub over : IsTrue (has_any (state g was).now.schema) → (fault ≡ Store) × (now ≡ was)
    pub unchanged : HasWhatItHad (state g was) (state g now)
    pub crash : MakesAllOrNothing (made_in made_at) i (state g was) (state g now)

  -- tables are made; or that is refused, and nothing is changed: where one of them was there, the database comes back as it was
  pub record MakesRows (i : Identity) (made_at : Version) (was : Held S) (result : Result (SqliteOf S) (FileFault × Held S)) : Type 0 where
    pub made : IfOk result (IsMadeFor g i made_at (state g was))
    pub over : IsTrue (has_any (state g was).now.schema) → result ≡ Err (faults.Rows Store, was)
    pub refused : IfErr result (λ e. RefusesToMake i made_at (rows_fault e.0) was e.1)
    pub making : IfErr result (λ e. IsOfMaking e.0)

  -- why tables are not made: they are all there, and the database comes back as it was, or that is refused
  abbrev pub TellsWhyUnmade : Identity → Version → FileFault → Held S → Held S → Type 0
  TellsWhyUnmade i made_at faults.Made was now = (has_tables (state g was).now.schema ≡ true) × (now ≡ was)
  TellsWhyUnmade i made_at faults.DiskFull was now = (has_tables (state g was).now.schema ≡ false) × RefusesToMake i made_at Store was now
  TellsWhyUnmade i made_at (faults.Rows fault) was now = (has_tables (state g was).now.schema ≡ false) × RefusesToMake i made_at fault was now
  TellsWhyUnmade i made_at _ was now = ⊥

  -- why a database does not give what was wanted of it
  abbrev pub RefusesWanted : Wanted → FileFault → Held S → Held S → Type 0
  RefusesWanted (Stored given) fault was now = TellsWhyUntaken given fault was now
  RefusesWanted (Made i version) fault was now = TellsWhyUnmade i (version_of version) fault was now

  -- what was wanted of a database is given, or else it is told why not, and the database comes back
  pub record GivesWanted (wanted : Wanted) (was : Held S) (result : Result (SqliteOf S) (FileFault × Held S)) : Type 0 where
    pub given : IfOk result (AreAsWanted g wanted (state g was))
    pub refused : IfErr result (λ e. RefusesWanted wanted e.0 was e.1)

  -- why a database that does not come back did not give what was wanted of it
  abbrev pub IsRefused : Wanted → Held S → FileFault → Type 0
  IsRefused wanted was fault = (now : Held S) × RefusesWanted wanted fault was now
