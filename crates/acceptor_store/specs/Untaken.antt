-- Why rows were not taken up from two files, and what comes back; and why none were made in a file.
use Rattle.std.specs.Prelude.{◌≡◌, ◌⊎◌, ◌&&◌, false, IsTrue, Option}
use Rattle.sqlite_disk.specs.declared.Disk.{Ghosts}
use Rattle.sqlite_disk.specs.declared.Files.{Files}
use Rattle.sqlite.specs.declared.error.Error.{Error}
use Rattle.sqlite.specs.declared.FileStore.{FileStore}
use Rattle.sqlite.specs.declared.Leftover.{Leftover}
use Rattle.sqlite.specs.Closing.{files_left}
use Rattle.sqlite.specs.Files.{file_state, over_files, Finds, FailsToOpenFiles, IsCleanLeft, IsOpened, LeavesFiles}
use Rattle.sqlite.specs.Held.{Held}
use Rattle.sqlite.specs.Opening.{is_open_error}
use Rattle.sqlite.specs.Recovery.{Image}
use Rattle.sqlite.specs.Start.{FindsIn}
use Rattle.sqlite.specs.State.{HasCleanDisk}
use Rattle.protocol.specs.Versions.{Version}
use Rattle.rows_saved.specs.declared.identity.Identity.{Identity}
use Rattle.acceptor_store.specs.declared.faults.FileFault.{FileFault}
use Rattle.acceptor_store.specs.declared.faults.FileFault.TheVariants.{DiskFailed}
use Rattle.acceptor_store.specs.Faults.{file_fault}
use Rattle.acceptor_store.specs.Restarts.{GivesUp}
use Rattle.acceptor_store.specs.Taking.{TellsWhyUntaken, TellsWhyUnmade}

-- the fault is that of an error with which the database did not open
pub record IsUnopened (fault : FileFault) : Type 0 where
  pub error : Error
  pub named : IsTrue (is_open_error error)
  pub is : fault ≡ file_fault error

module _ {D : Type 0} (g : Ghosts D) (files : Files D) (fault : FileFault) (back : Files D) where
  -- the two may be used no more, and come back as they were
  pub record AreUsedUp : Type 0 where
    pub unusable : (g.is_usable files.log && g.is_usable files.db) ≡ false
    pub failed : fault ≡ DiskFailed
    pub same : back ≡ files

  -- the database did not open; where the disk has returned what was written, the error has a cause, and a database that the two held is unharmed
  pub record DoNotOpen : Type 0 where
    pub error : Error
    pub left : Leftover D g
    pub named : IsTrue (is_open_error error)
    pub is : fault ≡ file_fault error
    pub came_back : (back.log, back.db) ≡ files_left left
    pub cause : IsCleanLeft left → FailsToOpenFiles files left error
    pub unharmed : IsCleanLeft left → LeavesFiles files left

  abbrev pub FailToOpen : Type 0
  FailToOpen = AreUsedUp ⊎ DoNotOpen

  -- the database that the two held has no such rows, or they are refused, and it was given up: whatever a crash leaves of the two, they hold a database
  -- that a crash could leave of it
  pub record AreRefused (given : Option Identity) : Type 0 where
    pub was : Held (FileStore D g)
    pub now : Held (FileStore D g)
    pub opened : HasCleanDisk (file_state was) → IsOpened was
    pub found : HasCleanDisk (file_state was) → Finds files was
    pub why : TellsWhyUntaken over_files given fault was now
    pub gives_up : GivesUp g now back

-- why rows were not taken up from two files for the station that is given, if any: the fault says which it is
abbrev pub AreUntaken : {D : Type 0} → Ghosts D → Option Identity → Files D → FileFault → Files D → Type 0
AreUntaken g given files fault back = FailToOpen g files fault back ⊎ AreRefused g files fault back given

module _ {D : Type 0} (g : Ghosts D) (start : Image) (i : Identity) (made_at : Version) (fault : FileFault) where
  -- the database that the file held was found, and no tables were made in it for this reason
  pub record IsNotMadeIn : Type 0 where
    pub was : Held (FileStore D g)
    pub now : Held (FileStore D g)
    pub opened : HasCleanDisk (file_state was) → IsOpened was
    pub found : HasCleanDisk (file_state was) → FindsIn start (file_state was)
    pub why : TellsWhyUnmade over_files i made_at fault was now

  -- why no tables were made in a file for this station, at this version: the fault says which it is
  abbrev pub AreUnmade : Type 0
  AreUnmade = IsUnopened fault ⊎ IsNotMadeIn
