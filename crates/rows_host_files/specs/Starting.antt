-- What a start opens, as the laws of a hand-over ask for it.
use Rattle.std.specs.Prelude.{◌≡◌, ◌⊎◌, Option}
use Rattle.sqlite_disk.specs.declared.Disk.{Ghosts}
use Rattle.sqlite_disk.specs.declared.Files.{Files}
use Rattle.sqlite.specs.declared.FileStore.{FileStore}
use Rattle.sqlite.specs.Files.{file_state, image_of}
use Rattle.sqlite.specs.Recovery.{Image}
use Rattle.sqlite.specs.State.{HasCleanDisk}
use Rattle.rows_saved.specs.declared.identity.Identity.{Identity}
use Rattle.rows_life.specs.Keeping.{StandFor}
use Rattle.acceptor_store.specs.Restarts.{AreOpenedFrom}
use Rattle.acceptor_store.specs.Sqlite.{SqliteOf}
use Rattle.rows_host_files.specs.Living.{AreInLife, WasMarked}

-- files that hold this stand for what two files held, or are those still; or, where those had no mark, they stand for what was left of them once they had one
abbrev pub StandForWhatWas : {D : Type 0} → Ghosts D → Image → Option Identity → Image → Type 0
StandForWhatWas g first given begun =
    (StandFor first begun ⊎ (begun ≡ first)) ⊎ ((marked : Image) × WasMarked g first given marked × StandFor marked begun)

-- rows that were taken up in a life of files that held `first` were opened from just the files that the life was begun of, where the disk has returned what was
-- written; and these stand for what was
abbrev pub OpensWhatItBegins : (D : Type 0) → Ghosts D → Type 0
OpensWhatItBegins D g =
    (first : Image) (given : Option Identity) (s : SqliteOf (FileStore D g)) → AreInLife first given s → HasCleanDisk (file_state s.conn)
    → (begun : Files D) × AreOpenedFrom (image_of g begun) s × StandForWhatWas g first given (image_of g begun)
