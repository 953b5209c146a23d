-- Saves that were acknowledged, and rows at rest: what a crash leaves of them at any later moment, and what the next start finds.
use Rattle.std.specs.Prelude.{◌≡◌, ◌≢◌, ℕ, List, [], false}
use Rattle.sqlite_disk.specs.declared.Disk as disk
use Rattle.sqlite_disk.specs.declared.Files.{Files}
use Rattle.sqlite.specs.WalReads.{AreClean}
use Rattle.sqlite.specs.WalFiles.{outcomes}
use Rattle.sqlite.specs.Recovery.{Image}
use Rattle.sqlite.specs.declared.FileStore.{FileStore}
use Rattle.sqlite.specs.Files.{over_files}
use Rattle.sqlite_trees.specs.declared.store.Store.{Ghosts}
use Rattle.protocol.specs.Ballots.{IsMember}
use Rattle.protocol.specs.Rows.{Row}
use Rattle.protocol.specs.Versions.{Version}
use Rattle.protocol.specs.Circuit.{Circuit, State, Restarts, Restarted, StepsTo}
use Rattle.rows_saved.specs.Saved.{Saved, SameRows, WithRow, IsEither}
use Rattle.rows_saved.specs.Groups.{WithAll}
use Rattle.acceptor_store.specs.Grouping.{LeavesWithAll}
use Rattle.acceptor_store.specs.Sqlite.{SqliteOf, IsAtRest, IsOpen, IsOurs, rows_version, saved_of, LeavesStation, LeavesAll, LeavesEither, LeavesItsStation, LeavesNoOther, LeavesSameRows, LeavesWithRow}
use Rattle.acceptor_store.specs.Restarts.{GivesUp, AreOpenedFrom}

module _ {S : Type 0} (g : Ghosts S) where
  -- a `put` of this row answered Ok, on open rows that are kept: what its clauses say of the rows and of a crash
  pub record WasAcknowledged (number : ℕ) (row : Row) (old new : SqliteOf S) : Type 0 where
    pub was_open : IsOpen g old
    pub ran : old.stopped ≡ false
    pub identity : new.identity ≡ old.identity
    pub rows : WithRow (saved_of g old) number row (saved_of g new)
    pub crash_ok : LeavesWithRow g number row old new
    pub crash_station : LeavesItsStation g old new

  -- A call on rows that are kept saves nothing under this number, however it is answered: what its clauses say of the rows and of a crash.
  -- It is a `get`, `all` or `visit`, a `put` under another number, or an `upgrade`.
  pub data SavesNothingUnder (number : ℕ) (old new : SqliteOf S) : Type 0 where
    reads :
        new.identity ≡ old.identity → (IsOpen g new → SameRows (saved_of g old) (saved_of g new)) → LeavesNoOther g old new
        → SavesNothingUnder number old new
    puts :
        (other : ℕ) (row : Row) → other ≢ number → old.stopped ≡ false → new.identity ≡ old.identity
        → (IsOpen g new → IsEither (saved_of g old) other row (saved_of g new)) → LeavesEither g other row old new → LeavesItsStation g old new
        → SavesNothingUnder number old new
    upgrades :
        new.identity ≡ old.identity → (IsOpen g new → SameRows (saved_of g old) (saved_of g new)) → LeavesAll g old new
        → SavesNothingUnder number old new

  -- some such calls, one after the other, each on rows that were still open
  pub data GoesOn (number : ℕ) (first : SqliteOf S) : SqliteOf S → Type 0 where
    no_call : {now : SqliteOf S} → now ≡ first → GoesOn number first now
    one_more : {mid now : SqliteOf S} → GoesOn number first mid → IsOpen g mid → SavesNothingUnder number mid now → GoesOn number first now

  -- a save, one of rows together, a reading of rows at rest and an upgrade leave rows at rest, where the saves and the upgrade answered Ok and the rows are still open
  pub record LeavesRowsAtRest : Type 0 where
    pub put :
        (number : ℕ) (row : Row) (old new : SqliteOf S) → WasAcknowledged number row old new → IsOpen g new → IsAtRest g new
    pub put_all :
        (items : List (ℕ × Row)) (old new : SqliteOf S) → IsOpen g old → old.stopped ≡ false → new.identity ≡ old.identity
        → WithAll (saved_of g old) items (saved_of g new) → LeavesWithAll g items old new → LeavesItsStation g old new → IsOpen g new → IsAtRest g new
    pub get :
        (old new : SqliteOf S) → IsAtRest g old → IsOpen g new → new.identity ≡ old.identity → new.layout ≡ old.layout
        → SameRows (saved_of g old) (saved_of g new) → LeavesNoOther g old new → IsAtRest g new
    pub upgrade :
        (old new : SqliteOf S) → IsOpen g new → new.identity ≡ old.identity → SameRows (saved_of g old) (saved_of g new)
        → LeavesSameRows g old new → LeavesStation g new old.identity → IsAtRest g new

-- A `put` answered Ok, then came calls that save nothing under its number, and then a crash of the files.
-- An open that is not refused then finds the store's own tables, the same station, and this very row under the number.
abbrev pub AcknowledgedSaveIsFound : (D : Type 0) (g : disk.Ghosts D) (E : Type 0) (h : disk.Ghosts E) → Type 0
AcknowledgedSaveIsFound D g E h =
    (old new last : SqliteOf (FileStore D g)) (number : ℕ) (row : Row) (files : Files D) (left : Image) (again : SqliteOf (FileStore E h))
    → WasAcknowledged over_files number row old new → GoesOn over_files number new last
    → GivesUp g last.conn files → AreClean g files.log files.db → outcomes g files.log files.db left → AreOpenedFrom left again
    → IsOurs again.alone again.was again.found × (again.identity ≡ old.identity) × (saved_of over_files again number ≡ row)

-- After a crash of rows at rest an open that is not refused finds the tables as the store's own, the same station, the same version and the same rows
abbrev pub CrashAtRestLosesNothing : (D : Type 0) (g : disk.Ghosts D) (E : Type 0) (h : disk.Ghosts E) → Type 0
CrashAtRestLosesNothing D g E h =
    (s : SqliteOf (FileStore D g)) (files : Files D) (left : Image) (again : SqliteOf (FileStore E h))
    → IsAtRest over_files s → GivesUp g s.conn files → AreClean g files.log files.db → outcomes g files.log files.db left → AreOpenedFrom left again
    → IsOurs again.alone again.was again.found × (again.identity ≡ s.identity) × (rows_version again ≡ rows_version s)
    × SameRows (saved_of over_files s) (saved_of over_files again)

-- a member has these rows after a restart, at this version, and has taken nothing in
pub record RestartsWith {B G F : Type 0} (z : Circuit B G F) (w : State G F) (m : ℕ) (version : Version) (rows : Saved) : Type 0 where
  pub after : State G F
  pub restarts : StepsTo z w (Restarts m) Restarted after
  pub has_version : after.version m ≡ version
  pub has_rows : (n : ℕ) → after.rows m n ≡ rows n
  pub has_no_marks : after.marks m ≡ []
  pub goes_on : after.is_stopped m ≡ false

-- the same in the words of a circuit: where a state has these rows of a member, at their version, the open finds the rows that the member's restart leaves
abbrev pub CrashAtRestIsRestart : (D : Type 0) (g : disk.Ghosts D) (E : Type 0) (h : disk.Ghosts E) (B G F : Type 0) → Type 0
CrashAtRestIsRestart D g E h B G F =
    (s : SqliteOf (FileStore D g)) (files : Files D) (left : Image) (again : SqliteOf (FileStore E h))
    → IsAtRest over_files s → GivesUp g s.conn files → AreClean g files.log files.db → outcomes g files.log files.db left → AreOpenedFrom left again
    → (z : Circuit B G F) (w : State G F) (m : ℕ) → IsMember z.count m → w.version m ≡ rows_version s → SameRows (w.rows m) (saved_of over_files s)
    → RestartsWith z w m (rows_version again) (saved_of over_files again)
