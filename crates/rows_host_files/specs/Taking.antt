-- Rows that were made in two files of the host, and rows that were taken up from them. A type of files says what is supposed of them:
-- what they held as they were opened, and what a torn write may leave.
use Rattle.std.specs.Prelude.{◌≡◌, ◌⊎◌, Option, None, false}
use Rattle.sqlite_disk.specs.declared.calls.Calls as calls
use Rattle.sqlite_disk.specs.declared.start.Start as start
use Rattle.sqlite_disk.specs.declared.Disk as disk
use Rattle.sqlite_disk.specs.declared.modelled.Modelled.{Modelled}
use Rattle.sqlite.specs.declared.FileStore.{FileStore}
use Rattle.sqlite.specs.State.{HasCleanDisk}
use Rattle.sqlite.specs.Files.{file_state, over_files}
use Rattle.sqlite.specs.WalFiles.{image_at}
use Rattle.protocol.specs.Versions.{Version, Two}
use Rattle.sqlite_trees.specs.declared.store.Store as trees
use Rattle.rows_saved.specs.Saved.{SameRows}
use Rattle.rows_saved.specs.declared.identity.Identity.{Identity}
use Rattle.acceptor_store.specs.Sqlite.{SqliteOf, HoldsNoRow, IsKept, IsOpen, IsOurs, rows_version, saved_of}
use Rattle.acceptor_store.specs.declared.faults.FileFault.{FileFault}
use Rattle.acceptor_store.specs.Files.{AreMadeIn, MakesItsOwn}
use Rattle.acceptor_store.specs.Untaken.{AreUnmade}
use Rattle.rows_files.specs.declared.causes.RefusedRows.{RefusedRows}
use Rattle.rows_host_files.specs.Causes.{refusal_of}
use Rattle.rows_host_files.specs.Living.{AreInLife, WasClosed}

module _ {C S : Type 0} {c : calls.Ghosts C} {first : start.Ghosts S} {g : disk.Ghosts (Modelled C S c first)} where
  -- they were taken up for the station that is given, if any, in a life that was begun of just the two files that the host opened; a torn
  -- write is taken to leave any bytes.
  --
  -- The path is in no word: that the two are those at the path of the row file, plays show. And one premise joins a start to the last end or crash,
  -- *an open finds what the last close left*: what the two held as they were opened is what was left of those at this path. No clause of the
  -- kit says which contents stand where.
  pub record AreOpened (given : Option Identity) (s : SqliteOf (FileStore (Modelled C S c first) g)) : Type 0 where
    pub in_life : AreInLife (image_at first) given s
    pub wary : first.is_mixing ≡ false

  -- they were made for a station, at a version, without a row, and their file was closed with all of them; a torn write is taken to
  -- leave any bytes
  pub record WereMade (i : Identity) (made_at : Version) (s : SqliteOf (FileStore (Modelled C S c first) g)) : Type 0 where
    pub its_own : MakesItsOwn (image_at first) s
    pub blank : HasCleanDisk (file_state s.conn) → IsOurs s.alone s.was s.found → HoldsNoRow over_files s
    pub identity : s.identity ≡ i
    pub version : rows_version s ≡ made_at
    pub goes : s.stopped ≡ false
    pub closed : WasClosed s
    pub wary : first.is_mixing ≡ false

-- rows of a store were upgraded, with every one of them: where they are kept and open, they are the same
pub record AreUpgraded {S : Type 0} (g : trees.Ghosts S) (was now : SqliteOf S) : Type 0 where
  pub two : rows_version now ≡ Two
  pub same : IsKept g now → IsOpen g now → SameRows (saved_of g was) (saved_of g now)
  pub station : now.identity ≡ was.identity

-- so were rows in files, and the files were closed
pub record WereUpgraded {D : Type 0} {g : disk.Ghosts D} (was : SqliteOf (FileStore D g)) : Type 0 where
  pub now : SqliteOf (FileStore D g)
  pub upgraded : AreUpgraded over_files was now
  pub closed : WasClosed now

-- in files of this type rows were taken up, whosever they are, and upgraded
abbrev pub HasUpgraded : {C S : Type 0} {c : calls.Ghosts C} {first : start.Ghosts S} → disk.Ghosts (Modelled C S c first) → Type 0
HasUpgraded {C} {S} {c} {first} g = (was : SqliteOf (FileStore (Modelled C S c first) g)) × AreOpened None was × WereUpgraded was

-- in files of this type rows were made so
abbrev pub HasMade : {C S : Type 0} {c : calls.Ghosts C} {first : start.Ghosts S} → disk.Ghosts (Modelled C S c first) → Identity → Version → Type 0
HasMade {C} {S} {c} {first} g i version = (s : SqliteOf (FileStore (Modelled C S c first) g)) × WereMade i version s

-- in files of this type no rows were made, and they are refused by just the fault that they are not made for; or they were made, and their file was not closed
abbrev pub IsNotMade : {C S : Type 0} {c : calls.Ghosts C} {first : start.Ghosts S} → disk.Ghosts (Modelled C S c first) → Identity → Version → RefusedRows → Type 0
IsNotMade {C} {S} {c} {first} g i version refused =
    ((fault : FileFault) × (refused ≡ refusal_of fault) × AreUnmade g (image_at first) i version fault)
    ⊎ ((s : SqliteOf (FileStore (Modelled C S c first) g)) × AreMadeIn (image_at first) i version s)
