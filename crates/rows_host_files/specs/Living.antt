-- The life of a row file: what a start makes of the two files that it and its log are, before a database is opened over them, and what an end makes of
-- them once that is closed. `first` is what the two held.
use Rattle.std.specs.Prelude.{◌≡◌, ◌⊎◌, Option, Result, Ok, IfOk, IfErr}
use Rattle.sqlite_disk.specs.declared.Disk.{Ghosts}
use Rattle.sqlite_disk.specs.declared.Files.{Files}
use Rattle.sqlite.specs.declared.FileStore.{FileStore}
use Rattle.sqlite.specs.Files.{file_state, image_of}
use Rattle.sqlite.specs.Recovery.{Image}
use Rattle.sqlite.specs.State.{HasCleanDisk}
use Rattle.sqlite.specs.WalReads.{AreClean}
use Rattle.rows_saved.specs.declared.identity.Identity.{Identity}
use Rattle.rows_files.specs.declared.causes.RefusedRows.{RefusedRows}
use Rattle.rows_files.specs.declared.found.FoundFile.TheVariants.{Database}
use Rattle.rows_files.specs.declared.found.Mark.{Mark}
use Rattle.rows_files.specs.declared.found.Mark.TheVariants.{Unmarkable}
use Rattle.rows_life.specs.Acts.{IsBegunAnew, LifeEnds}
use Rattle.rows_life.specs.Keeping.{AreSynced, AreUnwritten, StandFor}
use Rattle.rows_life.specs.Lives.{MayGoOn, file_in}
use Rattle.acceptor_store.specs.declared.faults.FileFault.{FileFault}
use Rattle.acceptor_store.specs.Files.{AreTakenUp, KeepsRowsAlone}
use Rattle.acceptor_store.specs.Restarts.{GivesUp}
use Rattle.acceptor_store.specs.Sqlite.{SqliteOf}
use Rattle.acceptor_store.specs.Untaken.{AreUntaken}
use Rattle.rows_host_files.specs.Causes.{refusal_of}

module _ {D : Type 0} {g : Ghosts D} where
  -- these two are left of rows that were closed: the database file alone had them all, and then the life of the two was ended, of which nothing is lost
  pub record EndsAs (s : SqliteOf (FileStore D g)) (left : Files D) : Type 0 where
    pub closed : Files D
    pub rows : KeepsRowsAlone s closed
    pub gives_up : GivesUp g s.conn closed
    pub ends : LifeEnds {E = RefusedRows} g closed left (Ok tt)

  -- two files are left of rows in that way
  abbrev pub WasClosed : SqliteOf (FileStore D g) → Type 0
  WasClosed s = (left : Files D) × EndsAs s left

module _ {D : Type 0} (g : Ghosts D) where
  -- what is read of the two by now, and what the disk has of them
  pub record AreAsRead (image : Image) (files : Files D) : Type 0 where
    pub same : image_of g files ≡ image
    pub synced : AreSynced g files

  -- a life of the two was begun, which were at rest, or had the log of their last life; and what they held they stand for still
  pub record BeginsLife (first : Image) (files : Files D) : Type 0 where
    pub pair : AreClean g files.log files.db → MayGoOn first.db first.log
    pub begun : IsBegunAnew (g.seen files.db) (g.seen files.log)
    pub stands : AreClean g files.log files.db → StandFor first (image_of g files)

  -- the rows in two files without a mark, as no version before 0.3.0 set one, were taken up as they stood, and were closed, so that the files are at rest
  pub record WasMarked (first : Image) (given : Option Identity) (marked : Image) : Type 0 where
    pub rows : SqliteOf (FileStore D g)
    pub taken : AreTakenUp first given rows
    pub left : Files D
    pub ends : EndsAs rows left
    pub same : marked ≡ image_of g left

  -- the two were looked at, and nothing was written; where it is found that they can't be marked, the file says so
  pub record FindsMark (old new : Files D) (result : Result Mark RefusedRows) : Type 0 where
    pub unwritten : AreUnwritten g old new
    pub unmarkable : IfOk result (λ mark. mark ≡ Unmarkable → AreClean g new.log new.db → file_in (g.seen old.db) ≡ Database Unmarkable)

  -- the two can't be marked, and are as they were
  pub record CanNotBeMarked (first : Image) (files : Files D) : Type 0 where
    pub file : AreClean g files.log files.db → file_in first.db ≡ Database Unmarkable
    pub same : image_of g files ≡ first

  -- the two, as a database is opened over them: a life of them was begun, or of what was left of them as they were marked; or they can't be marked
  abbrev pub AreReady : Image → Option Identity → Files D → Type 0
  AreReady first given begun =
      BeginsLife first begun ⊎ (((marked : Image) × WasMarked first given marked × BeginsLife marked begun) ⊎ CanNotBeMarked first begun)

  -- rows in two files are refused by just the fault that they are not taken up for
  abbrev pub AreRefusedFor : Option Identity → Files D → RefusedRows → Type 0
  AreRefusedFor given files refused = (fault : FileFault) × (back : Files D) × (refused ≡ refusal_of fault) × AreUntaken g given files fault back

  -- rows are taken up from just these two; where they are refused, it is by just the fault that they are not taken up for
  pub record TakesUp (given : Option Identity) (files : Files D) (result : Result (SqliteOf (FileStore D g)) RefusedRows) : Type 0 where
    pub taken : IfOk result (AreTakenUp (image_of g files) given)
    -- where the disk has returned what was written by now, it had as they were opened
    pub honest : IfOk result (λ s. HasCleanDisk (file_state s.conn) → AreClean g files.log files.db)
    pub refused : IfErr result (AreRefusedFor given files)

-- rows that were taken up for the station that is given, if any, in a life that was begun of two files, and from just these
pub record AreInLife {D : Type 0} {g : Ghosts D} (first : Image) (given : Option Identity) (s : SqliteOf (FileStore D g)) : Type 0 where
  pub begun : Files D
  pub ready : AreReady g first given begun
  pub taken : AreTakenUp (image_of g begun) given s
  -- where the disk has returned what was written by now, it had as they were opened
  pub honest : HasCleanDisk (file_state s.conn) → AreClean g begun.log begun.db
