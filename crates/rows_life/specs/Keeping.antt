-- What a start and an end of a row file may not lose: the database that the file and its log stand for. Of its pages only the mark may change, four
-- bytes of the first page that no table reads.
use Rattle.std.specs.Prelude.{◌≡◌, ◌≢◌, ◌⊎◌, ℕ, ◌<◌, ◌≤◌, List, length, slice_index, Some}
use Rattle.sqlite_disk.specs.declared.Disk.{Ghosts}
use Rattle.sqlite_disk.specs.declared.Files.{Files}
use Rattle.sqlite_disk.specs.Disk.{Follows, Only, Torn}
use Rattle.sqlite_wal.specs.Recovery.{Pages, Image, AreWhole, Recovers, Replays, header}
use Rattle.sqlite_wal.specs.Format.{be32, IsHeader}
use Rattle.sqlite_wal.specs.Files.{outcomes, seen_image}
use Rattle.sqlite_wal.specs.Reads.{IsClean, AreClean}
use Rattle.rows_life.specs.Lives.{page_size_in}

-- the same bytes, except the mark: bytes 60 to 63 of a database's header, its user version (SQLite's file format, 1.3)
pub record SameButMark (old new : List ℕ) : Type 0 where
  pub len : length new ≡ length old
  pub before : (i : ℕ) → i < length old → i < 60 → slice_index new i ≡ slice_index old i
  pub behind : (i : ℕ) → i < length old → 64 ≤ i → slice_index new i ≡ slice_index old i

-- the same pages, except that the first may have another mark
pub record SamePages (old new : Pages) : Type 0 where
  pub first : (page : List ℕ) → old 1 ≡ Some page → (now : List ℕ) × (new 1 ≡ Some now) × SameButMark page now
  pub others : (n : ℕ) → n ≢ 1 → new n ≡ old n

-- the pages of a database: each has all its bytes, and the first names their size
pub record AreOfDatabase (size : ℕ) (pages : Pages) : Type 0 where
  pub large : 512 ≤ size
  pub whole : AreWhole size pages
  pub named : (first : List ℕ) → pages 1 ≡ Some first → page_size_in first ≡ size

-- if the old files have the pages of a database, the new ones have the same pages, except the mark
abbrev pub HavePagesOf : Image → Image → Type 0
HavePagesOf old new =
    (size : ℕ) (pages : Pages) → AreOfDatabase size pages → Recovers size old pages
    → (now : Pages) × SamePages pages now × Recovers size new now

-- The pages of the database in these files end in bytes that are kept for a sum over the page, as the first page says (SQLite's file format, 1.3.4).
-- Another mark would make the first page's sum wrong, and a page in the log may have none yet.
pub record KeepSums (image : Image) : Type 0 where
  pub size : ℕ
  pub pages : Pages
  pub database : AreOfDatabase size pages
  pub found : Recovers size image pages
  pub first : List ℕ
  pub is_first : pages 1 ≡ Some first
  pub reserves : 0x100_0000 ≤ be32 first 20

-- these files keep no sums
pub record KeepNoSums (image : Image) : Type 0 where
  pub none : ¬ KeepSums image

-- The new files stand for the database that the old ones stand for: they have its pages, except the mark. Where the pages keep sums, no byte of
-- the two files has changed.
pub record StandFor (old new : Image) : Type 0 where
  pub pages : HavePagesOf old new
  pub sums : KeepSums old → new ≡ old

-- a log for pages of this size that ends behind the salts of a first frame, and holds no frame
pub record IsNewLog (size : ℕ) (log : List ℕ) : Type 0 where
  pub long : length log ≡ 56
  pub head : IsHeader size (header log)

-- if recovery takes nothing from the old log, it takes nothing from the new one, at the page size of this new log
abbrev pub StaysBare : List ℕ → List ℕ → List ℕ → Type 0
StaysBare made old new = (size : ℕ) → IsNewLog size made → 512 ≤ size → Replays size old 0 → Replays size new 0

module _ {D : Type 0} (g : Ghosts D) where
  -- a file was not written: it reads as before, and a crash leaves nothing new of it
  pub record IsUnwritten (old new : D) : Type 0 where
    pub seen : g.seen new ≡ g.seen old
    pub crash : (c : List ℕ) → g.may_leave new c → g.may_leave old c

  -- neither of the two was written
  pub record AreUnwritten (old new : Files D) : Type 0 where
    pub log : IsUnwritten old.log new.log
    pub db : IsUnwritten old.db new.db

  -- no byte of a file was written except its mark, whole or torn
  pub record WritesTheMark (old new : D) : Type 0 where
    pub seen : Torn 60 4 (g.seen old) (g.seen new)
    pub crash : Follows (Torn 60 4) (g.may_leave old) (g.may_leave new)

  -- a crash while a log is replaced by this new one leaves what it could have left before, or a log from which nothing is taken if nothing was before
  abbrev pub ReplacesBare : List ℕ → D → D → Type 0
  ReplacesBare made old new = IsClean g new → (c : List ℕ) → g.may_leave new c → g.may_leave old c ⊎ StaysBare made (g.seen old) c

  -- the disk has what the two files read as, so a crash now leaves just that: as of files that were just opened
  pub record AreSynced (files : Files D) : Type 0 where
    pub log : Only (g.seen files.log) (g.may_leave files.log)
    pub db : Only (g.seen files.db) (g.may_leave files.db)

  -- where the disk is clean, whatever a crash leaves of the new files has the pages of something that it could have left of the old ones
  abbrev pub LoseNothing : Files D → Files D → Type 0
  LoseNothing old new =
      AreClean g new.log new.db → (left : Image) → outcomes g new.log new.db left
      → (before : Image) × outcomes g old.log old.db before × HavePagesOf before left

  -- where the old files were synced and the disk is clean, whatever a crash leaves of the new ones has the pages that the old ones had
  abbrev pub KeepPages : Files D → Files D → Type 0
  KeepPages old new =
      AreSynced old → AreClean g new.log new.db → (left : Image) → outcomes g new.log new.db left
      → HavePagesOf (seen_image g old.log old.db) left

  -- Where the old files were synced and the disk is clean, whatever a crash leaves of the new ones stands for what the old ones held. What the new
  -- ones read as is such an outcome.
  abbrev pub KeepAll : Files D → Files D → Type 0
  KeepAll old new =
      AreSynced old → AreClean g new.log new.db → (left : Image) → outcomes g new.log new.db left
      → StandFor (seen_image g old.log old.db) left
