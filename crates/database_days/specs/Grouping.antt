-- Rows whose saves waited to be saved together, in rows that are saved in a database, and what the next start finds of them, as a day has it. The database
-- is the rows themselves, or inside rows that watch it.
use Rattle.std.specs.Prelude.{◌≡◌, ◌⊎◌, [], false}
use Rattle.sqlite_disk.specs.declared.Disk as disk
use Rattle.sqlite_disk.specs.declared.Files.{Files}
use Rattle.sqlite.specs.WalReads.{AreClean}
use Rattle.sqlite.specs.WalFiles.{outcomes}
use Rattle.sqlite.specs.Recovery.{Image}
use Rattle.sqlite.specs.declared.FileStore.{FileStore}
use Rattle.sqlite.specs.Files.{over_files}
use Rattle.rows_saved.specs.Saved.{SameRows}
use Rattle.rows_saved.specs.Grouped.{GroupedOf}
use Rattle.rows_host_files.specs.declared.watched.Watched.{Watched}
use Rattle.station.specs.declared.station.Station.{Station}
use Rattle.station.specs.Stations.{Sight}
use Rattle.acceptor_store.specs.Sqlite.{SqliteOf, IsAtRest, IsOpen, IsOurs, rows_version, saved_of, LeavesAll, LeavesItsStation, LeavesNoOther}
use Rattle.acceptor_store.specs.Grouping.{LeavesAllOrNone}
use Rattle.acceptor_store.specs.Restarts.{GivesUp, AreOpenedFrom}
use Rattle.days.specs.Happening.{At_rest, Upgrading}
use Rattle.days.specs.Handing.{FindsRows}
use Rattle.rows_life.specs.Keeping.{StandFor}

-- the rows that are watched
abbrev pub watched_rows : {R W : Type 0} → Watched R W → R
watched_rows s = s.rows

module _ {D : Type 0} {g : disk.Ghosts D} {R : Type 0} (inside : R → SqliteOf (FileStore D g)) where
  -- nothing waits, and the rows inside are at rest
  pub record IsSettled (last : Station (GroupedOf R)) : Type 0 where
    pub settled : last.rows.waits ≡ []
    pub rest : IsAtRest over_files (inside last.rows.rows)

  -- A station that was settled took a group of steps, and was this one then. What they saved waits: the rows inside were read at most,
  -- are still open, and were not stopped.
  pub record TookAGroup (before after : Station (GroupedOf R)) : Type 0 where
    pub begins : IsSettled before
    pub identity : (inside after.rows.rows).identity ≡ (inside before.rows.rows).identity
    pub same : SameRows (saved_of over_files (inside before.rows.rows)) (saved_of over_files (inside after.rows.rows))
    pub is_open : IsOpen over_files (inside after.rows.rows)
    pub ran : (inside after.rows.rows).stopped ≡ false
    pub version : rows_version (inside after.rows.rows) ≡ rows_version (inside before.rows.rows)

  -- the rows inside were in the save of all that waited: what the clauses of `put_all` say, however it is answered
  pub record WereSettling (after : Station (GroupedOf R)) (now : SqliteOf (FileStore D g)) : Type 0 where
    pub version : rows_version now ≡ rows_version (inside after.rows.rows)
    pub either : LeavesAllOrNone over_files after.rows.waits (inside after.rows.rows) now
    pub station : LeavesItsStation over_files (inside after.rows.rows) now

-- A process that takes its steps in groups ended, in whatever way, and the rows inside are in files. A crash left these of them. Then lives of them were
-- begun or ended, none or any number, each perhaps cut off by a crash, so the files that there are now stand for those that were left. An open of
-- them, if it is not refused, finds the store's own tables and the same station. Where the process had not begun to save a group, it finds the rows
-- of the station as it was before the group; where it had, those, or the rows of the station as it was after all steps of the group. Either is what
-- a day has the next process find after one that ended at rest. Where the process had begun to upgrade the rows, it finds them at the version before or
-- at version 2, as a day has it after an upgrade.
pub record GroupsHandOver
    (D : Type 0) (g : disk.Ghosts D) (E : Type 0) (h : disk.Ghosts E) {R : Type 0} (inside : R → SqliteOf (FileStore D g)) (x : Sight (GroupedOf R)) : Type 0 where
  pub before_the_save :
      (before : Station (GroupedOf R)) (now : SqliteOf (FileStore D g)) (files : Files D) (left begun : Image) (again : SqliteOf (FileStore E h))
      → IsSettled inside before → LeavesNoOther over_files (inside before.rows.rows) now
      → GivesUp g now.conn files → AreClean g files.log files.db → outcomes g files.log files.db left → StandFor left begun → AreOpenedFrom begun again
      → IsOurs again.alone again.was again.found × (again.identity ≡ (inside before.rows.rows).identity)
      × FindsRows x At_rest before (saved_of over_files again) (rows_version again)
  pub in_the_save :
      (before after : Station (GroupedOf R)) (now : SqliteOf (FileStore D g)) (files : Files D) (left begun : Image) (again : SqliteOf (FileStore E h))
      → TookAGroup inside before after → WereSettling inside after now
      → GivesUp g now.conn files → AreClean g files.log files.db → outcomes g files.log files.db left → StandFor left begun → AreOpenedFrom begun again
      → IsOurs again.alone again.was again.found × (again.identity ≡ (inside before.rows.rows).identity)
      × (FindsRows x At_rest before (saved_of over_files again) (rows_version again)
      ⊎ FindsRows x At_rest after (saved_of over_files again) (rows_version again))
  pub in_an_upgrade :
      (before : Station (GroupedOf R)) (now : SqliteOf (FileStore D g)) (files : Files D) (left begun : Image) (again : SqliteOf (FileStore E h))
      → IsSettled inside before → LeavesAll over_files (inside before.rows.rows) now
      → GivesUp g now.conn files → AreClean g files.log files.db → outcomes g files.log files.db left → StandFor left begun → AreOpenedFrom begun again
      → IsOurs again.alone again.was again.found × (again.identity ≡ (inside before.rows.rows).identity)
      × FindsRows x Upgrading before (saved_of over_files again) (rows_version again)
