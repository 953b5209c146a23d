-- What an open finds after a crash, where lives of the files that the crash left were begun or ended before: the files hold all that was left.
use Rattle.std.specs.Prelude.{◌≡◌, ◌≢◌, ℕ, List}
use Rattle.sqlite_disk.specs.declared.Disk.{Ghosts}
use Rattle.sqlite_disk.specs.declared.Files.{Files}
use Rattle.sqlite.specs.WalReads.{AreClean}
use Rattle.sqlite.specs.WalFiles.{outcomes}
use Rattle.sqlite.specs.Recovery.{Image}
use Rattle.sqlite_trees.specs.Tree.{Trees}
use Rattle.sqlite_trees.specs.Objects.{version_tree}
use Rattle.sqlite.specs.declared.FileStore.{FileStore}
use Rattle.sqlite.specs.Files.{over_files, HoldsDatabase}
use Rattle.rows_table.specs.declared.layout.Layout.{Layout}
use Rattle.rows_saved.specs.Saved.{Saved, SameRows}
use Rattle.rows_saved.specs.Groups.{IsAllOrNone}
use Rattle.protocol.specs.Rows.{Row}
use Rattle.rows_saved.specs.declared.identity.Identity.{Identity}
use Rattle.acceptor_store.specs.Sqlite.{SqliteOf, IsAtRest, IsOurs, IsOfStation, rows_version, saved_of, MayLeave, LeavesAll, LeavesStation}
use Rattle.acceptor_store.specs.Restarts.{GivesUp, AreOpenedFrom, AreUpgradeTorn}

-- the same trees, except SQLite's user version
abbrev pub SameTables : Trees → Trees → Type 0
SameTables old new = (tree : ℕ) → tree ≢ version_tree → new tree ≡ old tree

-- the new files hold each database of a station that the old ones hold, except its user version
abbrev pub HoldAllOf : Image → Image → Type 0
HoldAllOf old new =
    (layout : Layout) (i : Identity) (db : Trees) → IsOfStation layout i db → HoldsDatabase old db
    → ∥ ((now : Trees) × SameTables db now × HoldsDatabase new now) ∥₁

-- A crash of the files that were given up, other files that hold all that it left, and an open of these that is not refused: the tables are the store's
-- own, in the layout of the rows, the station is the one that was there, and the rows are those that a crash could leave
abbrev pub OpensWhatIsBegun : (D : Type 0) (g : Ghosts D) (E : Type 0) (h : Ghosts E) → Type 0
OpensWhatIsBegun D g E h =
    (s : SqliteOf (FileStore D g)) (i : Identity) (files : Files D) (left begun : Image) (again : SqliteOf (FileStore E h))
    → LeavesStation over_files s i → GivesUp g s.conn files
    → AreClean g files.log files.db → outcomes g files.log files.db left → HoldAllOf left begun → AreOpenedFrom begun again
    → IsOurs again.alone again.was again.found × (again.layout ≡ s.layout)
    × (again.identity ≡ i) × ∥ MayLeave over_files s (saved_of over_files again) ∥₁

-- the same of rows at rest: the station, the version and the rows are the same
abbrev pub BegunAtRestLosesNothing : (D : Type 0) (g : Ghosts D) (E : Type 0) (h : Ghosts E) → Type 0
BegunAtRestLosesNothing D g E h =
    (s : SqliteOf (FileStore D g)) (files : Files D) (left begun : Image) (again : SqliteOf (FileStore E h))
    → IsAtRest over_files s → GivesUp g s.conn files → AreClean g files.log files.db → outcomes g files.log files.db left → HoldAllOf left begun → AreOpenedFrom begun again
    → IsOurs again.alone again.was again.found × (again.identity ≡ s.identity) × (rows_version again ≡ rows_version s)
    × SameRows (saved_of over_files s) (saved_of over_files again)

-- the same after an upgrade, or in one
abbrev pub UpgradeOutlivesBegun : (D : Type 0) (g : Ghosts D) (E : Type 0) (h : Ghosts E) → Type 0
UpgradeOutlivesBegun D g E h =
    (old new : SqliteOf (FileStore D g)) (files : Files D) (left begun : Image) (again : SqliteOf (FileStore E h))
    → LeavesAll over_files old new → GivesUp g new.conn files
    → AreClean g files.log files.db → outcomes g files.log files.db left → HoldAllOf left begun → AreOpenedFrom begun again
    → IsOurs again.alone again.was again.found × (again.identity ≡ old.identity)
    × AreUpgradeTorn (rows_version old) (saved_of over_files old) (rows_version again) (saved_of over_files again)

-- the same after rows were to be saved together
abbrev pub GroupOutlivesBegun : (D : Type 0) (g : Ghosts D) (E : Type 0) (h : Ghosts E) → Type 0
GroupOutlivesBegun D g E h =
    (old new : SqliteOf (FileStore D g)) (items : List (ℕ × Row)) (files : Files D) (left begun : Image) (again : SqliteOf (FileStore E h))
    → LeavesStation over_files new old.identity → ((rows : Saved) → MayLeave over_files new rows → IsAllOrNone (saved_of over_files old) items rows)
    → GivesUp g new.conn files → AreClean g files.log files.db → outcomes g files.log files.db left → HoldAllOf left begun → AreOpenedFrom begun again
    → IsOurs again.alone again.was again.found × (again.layout ≡ new.layout) × (again.identity ≡ old.identity)
    × ∥ IsAllOrNone (saved_of over_files old) items (saved_of over_files again) ∥₁
