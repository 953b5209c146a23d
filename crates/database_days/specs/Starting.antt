-- Rows in a database that a process had, and what the next start finds of them, as a day has it.
use Rattle.std.specs.Prelude.{◌≡◌, ◌⊎◌, ℕ, List, Some, false}
use Rattle.sqlite_disk.specs.declared.Disk as disk
use Rattle.sqlite_disk.specs.declared.Files.{Files}
use Rattle.sqlite.specs.WalReads.{AreClean}
use Rattle.sqlite.specs.WalFiles.{outcomes}
use Rattle.sqlite.specs.Recovery.{Image}
use Rattle.sqlite.specs.declared.FileStore.{FileStore}
use Rattle.sqlite.specs.Files.{over_files}
use Rattle.protocol.specs.Rows.{Row}
use Rattle.protocol.specs.Marks.{Mark}
use Rattle.protocol.specs.Turn.{Event, number_of, Turn}
use Rattle.protocol.specs.Refusals.{Call}
use Rattle.rows_saved.specs.Saved.{SameRows}
use Rattle.node_core.specs.Standing.{StandsFor}
use Rattle.station.specs.declared.station.Station.{Station}
use Rattle.station.specs.Stations.{Sight}
use Rattle.station.specs.Steps.{Asks, turn_of}
use Rattle.acceptor_store.specs.Sqlite.{SqliteOf, IsAtRest, IsOpen, IsOurs, rows_version, saved_of, LeavesAll, LeavesEither, LeavesItsStation, LeavesNoOther}
use Rattle.acceptor_store.specs.Restarts.{GivesUp, AreOpenedFrom}
use Rattle.days.specs.Happening.{Ending, At_rest, In_call, Upgrading}
use Rattle.days.specs.Handing.{FindsRows}
use Rattle.rows_life.specs.Keeping.{StandFor}

-- a call saves this row under this number: nothing refuses it, and its turn changes the row of its number to this one
pub record Saves {R : Type 0} (x : Sight R) (last : Station R) (marks : List Mark) (call : Call) (number : ℕ) (row : Row) : Type 0 where
  pub event : Event
  pub asks : Asks last marks call event
  pub taken : Turn
  pub is_turn : turn_of x last marks event ≡ Some taken
  pub changes : ¬ (taken.row ≡ x.saved last.rows (number_of event))
  pub about : number_of event ≡ number
  pub row_is : taken.row ≡ row

module _ {D : Type 0} {g : disk.Ghosts D} where
  -- the rows were at rest as the last call left them, and were read at most since
  pub record WereRead (last : Station (SqliteOf (FileStore D g))) (now : SqliteOf (FileStore D g)) : Type 0 where
    pub rest : IsAtRest over_files last.rows
    pub leaves : LeavesNoOther over_files last.rows now

  -- the rows were read, and then saved with the row of the call's turn: what the clauses of `get` and `put` say, however `put` is answered
  pub record WereSaved (x : Sight (SqliteOf (FileStore D g))) (last : Station (SqliteOf (FileStore D g))) (call : Call) (now : SqliteOf (FileStore D g)) : Type 0 where
    pub number : ℕ
    pub row : Row
    pub saves : (marks : List Mark) → StandsFor last.speaker.core marks → Saves x last marks call number row
    -- the rows as they were read, still open and not stopped
    pub read : SqliteOf (FileStore D g)
    pub identity : read.identity ≡ last.rows.identity
    pub same : SameRows (saved_of over_files last.rows) (saved_of over_files read)
    pub is_open : IsOpen over_files read
    pub ran : read.stopped ≡ false
    pub version : rows_version now ≡ rows_version last.rows
    pub either : LeavesEither over_files number row read now
    pub station : LeavesItsStation over_files read now

  -- How the rows were as a process ended so, which had this station before.
  -- Between two calls they were read at most; in a call read or saved; in an upgrade a crash leaves all of them.
  abbrev pub AreAsEnded : Sight (SqliteOf (FileStore D g)) → Ending → Station (SqliteOf (FileStore D g)) → SqliteOf (FileStore D g) → Type 0
  AreAsEnded x At_rest last now = WereRead last now
  AreAsEnded x (In_call call) last now = WereRead last now ⊎ WereSaved x last call now
  AreAsEnded x Upgrading last now = LeavesAll over_files last.rows now

-- A process ended, in whatever way, and its rows are in files. A crash left these of them. Then lives of them were begun or ended, none or any number,
-- each perhaps cut off by a crash, so the files that there are now stand for those that were left. An open of them, if it is not refused, finds the
-- store's own tables, the same station, and the rows and the version that a day allows the next process.
abbrev pub StartsHandOver : (D : Type 0) (g : disk.Ghosts D) (E : Type 0) (h : disk.Ghosts E) → Sight (SqliteOf (FileStore D g)) → Type 0
StartsHandOver D g E h x =
    (ending : Ending) (last : Station (SqliteOf (FileStore D g))) (now : SqliteOf (FileStore D g)) (files : Files D) (left begun : Image) (again : SqliteOf (FileStore E h))
    → AreAsEnded x ending last now → GivesUp g now.conn files → AreClean g files.log files.db → outcomes g files.log files.db left
    → StandFor left begun → AreOpenedFrom begun again
    → IsOurs again.alone again.was again.found × (again.identity ≡ last.rows.identity)
    × FindsRows x ending last (saved_of over_files again) (rows_version again)
