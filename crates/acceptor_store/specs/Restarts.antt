-- From a crash to the next start: what an open finds in the files that the crash left.
use Rattle.std.specs.Prelude.{◌≡◌, ◌≢◌, ◌⊎◌, ◌<◌, ◌^◌, ℕ, None, List}
use Rattle.sqlite_disk.specs.declared.Disk.{Ghosts}
use Rattle.sqlite_disk.specs.declared.Files.{Files}
use Rattle.sqlite.specs.WalReads.{AreClean}
use Rattle.sqlite.specs.WalFiles.{outcomes}
use Rattle.sqlite.specs.Recovery.{Image}
use Rattle.sqlite_trees.specs.Tree.{Trees}
use Rattle.sqlite.specs.declared.FileStore.{FileStore}
use Rattle.sqlite.specs.Held.{Held}
use Rattle.sqlite.specs.State.{HasCleanDisk}
use Rattle.sqlite.specs.Files.{file_state, over_files, HoldsDatabase}
use Rattle.rows_table.specs.declared.layout.Layout.{Layout}
use Rattle.rows_table.specs.Station.{HoldsNone}
use Rattle.protocol.specs.Rows.{Row, blank}
use Rattle.protocol.specs.Versions.{Version, Two}
use Rattle.protocol.specs.Circuit.{MayLeave as MayLeaveTorn, Torn_by_store}
use Rattle.rows_saved.specs.Saved.{Saved, SameRows, IsEither}
use Rattle.rows_saved.specs.Groups.{WithAll, IsAllOrNone}
use Rattle.rows_saved.specs.Identity.{IsIdentity}
use Rattle.rows_saved.specs.declared.identity.Identity.{Identity}
use Rattle.acceptor_store.specs.StationRow.{stored_station}
use Rattle.acceptor_store.specs.Sqlite.{SqliteOf, IsOurs, rows_version, saved_of, MayLeave, LeavesStation, LeavesAll}
use Rattle.acceptor_store.specs.Files.{OpensItsOwn, IsOpenedAgain}

-- the files of a connection that was given up: where the disk has returned what was written,
-- whatever a crash leaves of them holds a database that a crash could leave of the connection
abbrev pub GivesUp : {D : Type 0} (g : Ghosts D) → Held (FileStore D g) → Files D → Type 0
GivesUp g conn files =
    AreClean g files.log files.db → (left : Image) → outcomes g files.log files.db left
    → ∥ ((db : Trees) × (file_state conn).may_leave db × HoldsDatabase left db) ∥₁

-- rows that `open_files` took up from files which held this, on a disk that has returned what was written
pub record AreOpenedFrom {D : Type 0} {g : Ghosts D} (left : Image) (s : SqliteOf (FileStore D g)) : Type 0 where
  pub honest : HasCleanDisk (file_state s.conn)
  pub made : OpensItsOwn left s
  pub rows : IsOurs s.alone s.was s.found → IsOpenedAgain left s

-- A crash of the files that were given up, and an open of what it left that is not refused: the tables are the store's own,
-- in the layout of the rows, the station is the one that was there, and the rows are those that a crash could leave
abbrev pub OpensWhatIsLeft : (D : Type 0) (g : Ghosts D) (E : Type 0) (h : Ghosts E) → Type 0
OpensWhatIsLeft D g E h =
    (s : SqliteOf (FileStore D g)) (i : Identity) (files : Files D) (left : Image) (again : SqliteOf (FileStore E h))
    → LeavesStation over_files s i → GivesUp g s.conn files
    → AreClean g files.log files.db → outcomes g files.log files.db left → AreOpenedFrom left again
    → IsOurs again.alone again.was again.found × (again.layout ≡ s.layout)
    × (again.identity ≡ i) × ∥ MayLeave over_files s (saved_of over_files again) ∥₁

-- the rows of a station after a step that its own store tore as it saved this row: under the number a row that such a step
-- may leave, and no other changed
pub record AreTorn (before : Saved) (number : ℕ) (row : Row) (after : Saved) : Type 0 where
  pub torn : MayLeaveTorn {A = Row} {D = Unit {0}} {F = Unit {0}} None Torn_by_store (before number) row (after number)
  pub others : (n : ℕ) → n ≢ number → after n ≡ before n

-- The same after a save that was asked for, as `put` promises of what a crash leaves then: the rows are those of a torn step,
-- of the same station
abbrev pub PutOutlivesCrash : (D : Type 0) (g : Ghosts D) (E : Type 0) (h : Ghosts E) → Type 0
PutOutlivesCrash D g E h =
    (old new : SqliteOf (FileStore D g)) (number : ℕ) (row : Row) (files : Files D) (left : Image) (again : SqliteOf (FileStore E h))
    → LeavesStation over_files new old.identity → ((rows : Saved) → MayLeave over_files new rows → IsEither (saved_of over_files old) number row rows)
    → GivesUp g new.conn files → AreClean g files.log files.db → outcomes g files.log files.db left → AreOpenedFrom left again
    → IsOurs again.alone again.was again.found × (again.layout ≡ new.layout) × (again.identity ≡ old.identity)
    × ∥ AreTorn (saved_of over_files old) number row (saved_of over_files again) ∥₁

-- The same after rows were to be saved together, as `put_all` promises of what a crash leaves then: none of them is saved, or all are,
-- of the same station
abbrev pub GroupOutlivesCrash : (D : Type 0) (g : Ghosts D) (E : Type 0) (h : Ghosts E) → Type 0
GroupOutlivesCrash D g E h =
    (old new : SqliteOf (FileStore D g)) (items : List (ℕ × Row)) (files : Files D) (left : Image) (again : SqliteOf (FileStore E h))
    → LeavesStation over_files new old.identity → ((rows : Saved) → MayLeave over_files new rows → IsAllOrNone (saved_of over_files old) items rows)
    → GivesUp g new.conn files → AreClean g files.log files.db → outcomes g files.log files.db left → AreOpenedFrom left again
    → IsOurs again.alone again.was again.found × (again.layout ≡ new.layout) × (again.identity ≡ old.identity)
    × ∥ IsAllOrNone (saved_of over_files old) items (saved_of over_files again) ∥₁

-- and after an Ok, as `put_all` promises of what a crash leaves then: each of them is found
abbrev pub GroupIsFound : (D : Type 0) (g : Ghosts D) (E : Type 0) (h : Ghosts E) → Type 0
GroupIsFound D g E h =
    (old new : SqliteOf (FileStore D g)) (items : List (ℕ × Row)) (files : Files D) (left : Image) (again : SqliteOf (FileStore E h))
    → LeavesStation over_files new old.identity → ((rows : Saved) → MayLeave over_files new rows → WithAll (saved_of over_files old) items rows)
    → GivesUp g new.conn files → AreClean g files.log files.db → outcomes g files.log files.db left → AreOpenedFrom left again
    → IsOurs again.alone again.was again.found × (again.layout ≡ new.layout) × (again.identity ≡ old.identity)
    × ∥ WithAll (saved_of over_files old) items (saved_of over_files again) ∥₁

-- the version of a station after an upgrade that its own store tore, and its rows: the version is the one before or version 2, and no row is changed
pub record AreUpgradeTorn (was : Version) (before : Saved) (now : Version) (after : Saved) : Type 0 where
  pub torn : MayLeaveTorn {A = Version} {D = Unit {0}} {F = Unit {0}} None Torn_by_store was Two now
  pub same : SameRows before after

-- The same after an upgrade, or in one, as `upgrade` promises of what a crash leaves then: the rows of the same station, each as it was,
-- in the layout before or upgraded from it
abbrev pub UpgradeOutlivesCrash : (D : Type 0) (g : Ghosts D) (E : Type 0) (h : Ghosts E) → Type 0
UpgradeOutlivesCrash D g E h =
    (old new : SqliteOf (FileStore D g)) (files : Files D) (left : Image) (again : SqliteOf (FileStore E h))
    → LeavesAll over_files old new → GivesUp g new.conn files
    → AreClean g files.log files.db → outcomes g files.log files.db left → AreOpenedFrom left again
    → IsOurs again.alone again.was again.found × (again.identity ≡ old.identity)
    × AreUpgradeTorn (rows_version old) (saved_of over_files old) (rows_version again) (saved_of over_files again)

-- The same after the tables were to be made in a database without a station, as `create` promises of what a crash leaves then:
-- where its tables are the store's own, rows are taken up for this station alone, and none is there
abbrev pub CreateOutlivesCrash : (D : Type 0) (g : Ghosts D) (E : Type 0) (h : Ghosts E) → Type 0
CreateOutlivesCrash D g E h =
    (old new : Held (FileStore D g)) (layout : Layout) (i : Identity) (files : Files D) (left : Image) (again : SqliteOf (FileStore E h))
    → IsIdentity i → i.circuit < 2 ^ 16 → ((db : Trees) → (file_state old).may_leave db → stored_station db ≡ None)
    → ((db : Trees) → (file_state new).may_leave db → (file_state old).may_leave db ⊎ HoldsNone layout i.circuit i.member i.members db)
    → GivesUp g new files → AreClean g files.log files.db → outcomes g files.log files.db left → IsOpenedAgain left again
    → (again.identity ≡ i) × ((n : ℕ) → saved_of over_files again n ≡ blank)
