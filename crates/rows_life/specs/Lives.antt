-- A row file and its log as a life of them begins and ends.
use Rattle.std.specs.Prelude.{◌≡◌, ◌⊎◌, ◌<◌, ◌+◌, ◌*◌, ◌==◌, if◌then◌else◌, ℕ, List, Some, length, slice_index, take}
use Rattle.rows_files.specs.Found.{life_number, file_of, HoldsNoFrame, MayBeOpened}
use Rattle.rows_files.specs.declared.found.FoundFile.{FoundFile}
use Rattle.rows_files.specs.declared.found.FoundFile.TheVariants.{Database}
use Rattle.rows_files.specs.declared.found.Mark.TheVariants.{Unmarkable}
use Rattle.rows_files.specs.declared.found.FoundLog.{FoundLog}
use Rattle.rows_files.specs.declared.found.FoundLog.TheVariants.{Blank}
use Rattle.rows_life.specs.Logs.{log_of}

-- the file's mark says that it is at rest
pub record IsAtRest (file : List ℕ) : Type 0 where
  pub long : 60 < length file
  pub first : slice_index file 60 ≡ 0xc0

-- the file's mark says that it is in use, in the life of this number
pub record IsInUse (n : ℕ) (file : List ℕ) : Type 0 where
  pub long : 63 < length file
  pub first : slice_index file 60 ≡ 0xc1
  pub number : life_number file ≡ n

-- a life of this number has begun: the file is in use, and its log holds no frame and has the number
pub record IsBegun (n : ℕ) (file wal : List ℕ) : Type 0 where
  pub in_use : IsInUse n file
  pub log : log_of wal ≡ Blank (Some n)

-- the first n numbers of a file are bytes
abbrev pub BeginsWithBytes : ℕ → List ℕ → Type 0
BeginsWithBytes n file = (i : ℕ) → i < n → slice_index file i < 0x100

-- what a file with these bytes is
abbrev pub file_in : List ℕ → FoundFile
file_in file = file_of (take 108 file)

-- what a log with these bytes is
abbrev pub log_in : List ℕ → FoundLog
log_in wal = log_of (take 56 wal)

-- a life of this row file, whose log was this, has ended: the log held no frame, and the file, as it is now, is at rest; or the file can't be
-- marked
abbrev pub IsEnded : List ℕ → List ℕ → List ℕ → Type 0
IsEnded was wal is = (file_in was ≡ Database Unmarkable) ⊎ (HoldsNoFrame (log_in wal) × IsAtRest is)

-- how long the pages of a database's file are, as its header names it (SQLite's file format, 1.3.2)
abbrev pub page_size_in : List ℕ → ℕ
page_size_in file =
    if slice_index file 16 * 0x100 + slice_index file 17 == 1 then 0x1_0000 else slice_index file 16 * 0x100 + slice_index file 17

-- a row file and the log beside it, of which a life may begin: the file was at rest, or has the log of its last life
abbrev pub MayGoOn : List ℕ → List ℕ → Type 0
MayGoOn file wal = MayBeOpened (file_in file) (log_in wal)
