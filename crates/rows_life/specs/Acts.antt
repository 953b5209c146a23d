-- What is done to a row file and its log, and what each act leaves of them. A disk that tells no lie is clean; one whose syncs were all taken
-- may be used.
use Rattle.std.specs.Prelude.{◌≡◌, ℕ, List, Result, IfOk, OnOk, IsTrue}
use Rattle.sqlite_disk.specs.declared.Disk.{Ghosts}
use Rattle.sqlite_disk.specs.declared.Files.{Files}
use Rattle.sqlite_disk.specs.Disk.{Only}
use Rattle.sqlite_wal.specs.Reads.{IsClean, AreClean}
use Rattle.rows_files.specs.declared.found.FoundFile.{FoundFile}
use Rattle.rows_files.specs.declared.found.FoundLog.{FoundLog}
use Rattle.rows_life.specs.Lives.{file_in, log_in, BeginsWithBytes, IsBegun, IsEnded, MayGoOn}
use Rattle.rows_life.specs.Keeping.{IsUnwritten, AreUnwritten, KeepAll, LoseNothing}

-- a disk that is clean by now was clean before
abbrev pub WasClean : {D : Type 0} → Ghosts D → D → D → Type 0
WasClean g old new = IsClean g new → IsClean g old

-- so were those of a row file and its log
abbrev pub WereClean : {D : Type 0} → Ghosts D → Files D → Files D → Type 0
WereClean g old new = WasClean g old.log new.log × WasClean g old.db new.db

-- a life has begun of a number that is not told
abbrev pub IsBegunAnew : List ℕ → List ℕ → Type 0
IsBegunAnew file wal = (n : ℕ) × IsBegun n file wal

module _ {D E : Type 0} (g : Ghosts D) where
  -- a file was read, and what was found is what its bytes say
  pub record IsRead {X : Type 0} (says : List ℕ → X) (old new : D) (result : Result X E) : Type 0 where
    pub found : IfOk result (λ x. IsClean g new → x ≡ says (g.seen old))
    pub clean : WasClean g old new
    pub usable : IsTrue (g.is_usable new)
    pub unwritten : IsUnwritten g old new

  -- both were read, and what was found of each is what its bytes say; a disk that might be used still may
  pub record AreRead (old new : Files D) (result : Result (FoundFile × FoundLog) E) : Type 0 where
    pub file : IfOk result (λ both. IsClean g new.db → both.0 ≡ file_in (g.seen old.db))
    pub beside : IfOk result (λ both. IsClean g new.log → both.1 ≡ log_in (g.seen old.log))
    pub bytes : OnOk result (IsClean g new.db → BeginsWithBytes 108 (g.seen old.db))
    pub clean : WereClean g old new
    pub log_usable : IsTrue (g.is_usable old.log) → IsTrue (g.is_usable new.log)
    pub db_usable : IsTrue (g.is_usable old.db) → IsTrue (g.is_usable new.db)
    pub unwritten : AreUnwritten g old new

  -- a file was written, and the disk has it as it is to be, also after a crash
  pub record IsWritten (Has : List ℕ → Type 0) (old new : D) (result : Result (Unit {0}) E) : Type 0 where
    pub stands : OnOk result (Has (g.seen new))
    pub synced : OnOk result (Only (g.seen new) (g.may_leave new))
    pub clean : WasClean g old new
    pub usable : OnOk result (IsTrue (g.is_usable new))

  -- both were written, and the disk has the two as they are to be
  pub record AreWritten (Have : List ℕ → List ℕ → Type 0) (old new : Files D) (result : Result (Unit {0}) E) : Type 0 where
    pub stand : OnOk result (Have (g.seen new.db) (g.seen new.log))
    pub clean : WereClean g old new

  -- the two were looked at, and a life of them may begin
  pub record MayBegin {X : Type 0} (old new : Files D) (result : Result X E) : Type 0 where
    pub pair : OnOk result (IsClean g new.log → IsClean g new.db → MayGoOn (g.seen old.db) (g.seen old.log))
    pub clean : WereClean g old new
    pub unwritten : AreUnwritten g old new

  -- A life of the two was begun: where the disk is clean, what was taken was at rest, or had the log of its life. However the call ends, and wherever
  -- a crash cuts it off, the two stand for the database that they held.
  pub record LifeBegins (old new : Files D) (result : Result (Unit {0}) E) : Type 0 where
    pub pair : OnOk result (AreClean g new.log new.db → MayGoOn (g.seen old.db) (g.seen old.log))
    pub begun : OnOk result (IsBegunAnew (g.seen new.db) (g.seen new.log))
    pub kept : KeepAll g old new

  -- A life of the two was ended: where the disk is clean, they were as they are found. However the call ends, and wherever a crash cuts it off, no page
  -- is lost, and two that were synced stand for the database that they held.
  pub record LifeEnds (old new : Files D) (result : Result (Unit {0}) E) : Type 0 where
    pub ended : OnOk result (IsClean g new.log → IsClean g new.db → IsEnded (g.seen old.db) (g.seen old.log) (g.seen new.db))
    pub clean : WereClean g old new
    pub kept : LoseNothing g old new
    pub stands : KeepAll g old new
