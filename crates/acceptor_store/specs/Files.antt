-- Saved rows in a host's file.
use Rattle.std.specs.Prelude.{◌≡◌, ◌≤◌, Option, IsTrue, false}
use Rattle.sqlite_disk.specs.declared.Disk.{Ghosts}
use Rattle.sqlite.specs.declared.FileStore.{FileStore}
use Rattle.sqlite.specs.Held.{Held}
use Rattle.sqlite.specs.State.{HasCleanDisk}
use Rattle.sqlite.specs.Files.{file_state, over_files, image_of, IsOpened}
use Rattle.sqlite.specs.Closing.{HoldsAlone}
use Rattle.sqlite.specs.WalFiles.{outcomes}
use Rattle.sqlite.specs.WalReads.{AreClean}
use Rattle.sqlite_disk.specs.declared.Files.{Files}
use Rattle.sqlite.specs.Recovery.{Image}
use Rattle.sqlite.specs.Start.{FindsIn}
use Rattle.sqlite_trees.specs.Tree.{Trees}
use Rattle.sqlite_trees.specs.View.{doubt}
use Rattle.rows_table.specs.Tables.{layout_schema, no_schema}
use Rattle.protocol.specs.Versions.{Version}
use Rattle.rows_saved.specs.Saved.{SameRows}
use Rattle.rows_saved.specs.declared.identity.Identity.{Identity}
use Rattle.acceptor_store.specs.Columns.{saved_in}
use Rattle.acceptor_store.specs.FoundTables.{has_any}
use Rattle.acceptor_store.specs.Layouts.{made_in}
use Rattle.acceptor_store.specs.StationRow.{IsStationOf}
use Rattle.acceptor_store.specs.Sqlite.{SqliteOf, Agrees, HoldsNoRow, IsAtRest, IsOurs, IsOursAsFound, IsOfStation, rows_version, saved_of}

-- what the store owes: where the database that the files held has the tables of a layout, and no others, they are its own, in that layout
pub record OpensItsOwn {D : Type 0} {g : Ghosts D} (start : Image) (s : SqliteOf (FileStore D g)) : Type 0 where
  pub was : Held (FileStore D g)
  pub opened : HasCleanDisk (file_state s.conn) → IsOpened was
  pub found : HasCleanDisk (file_state s.conn) → FindsIn start (file_state was)
  pub ours : IsOursAsFound (file_state was) s

-- the rows and the station are those of the database that the files held, in its layout; nothing is written, and a crash leaves what it might have left before
pub record IsOpenedAgain {D : Type 0} {g : Ghosts D} (start : Image) (s : SqliteOf (FileStore D g)) : Type 0 where
  pub was : Held (FileStore D g)
  pub opened : IsOpened was
  pub found : FindsIn start (file_state was)
  pub tables : (file_state was).now.schema ≡ layout_schema s.was
  pub unwritten : (file_state s.conn).now ≡ (file_state was).now
  pub crash : (db : Trees) → (file_state s.conn).may_leave db → (file_state was).may_leave db
  pub same : SameRows (saved_in s.was (file_state was).now.trees) (saved_of over_files s)
  pub station : IsStationOf s.was s.identity (file_state was).now.trees
  pub fresh : s.layout ≡ s.was

-- What the store owes where it made the tables: the database that the files held had none of them, and they are its own if it had no table at all
pub record MakesItsOwn {D : Type 0} {g : Ghosts D} (start : Image) (s : SqliteOf (FileStore D g)) : Type 0 where
  pub was : Held (FileStore D g)
  pub opened : HasCleanDisk (file_state was) → IsOpened was
  pub found : HasCleanDisk (file_state was) → FindsIn start (file_state was)
  pub unmade : has_any (file_state was).now.schema ≡ false
  pub ours : (file_state was).now.schema ≡ no_schema → IsOurs s.alone s.was s.found
  -- where the disk has returned what was written, it had when the file was opened
  pub clean : doubt (file_state was).is_clean ≤ doubt (file_state s.conn).is_clean

-- rows that were taken up from the files for the station that is given, if any
pub record AreTakenUp {D : Type 0} {g : Ghosts D} (start : Image) (given : Option Identity) (s : SqliteOf (FileStore D g)) : Type 0 where
  pub is_open : HasCleanDisk (file_state s.conn) → IsOurs s.alone s.was s.found → IsTrue (file_state s.conn).is_open
  pub rests : HasCleanDisk (file_state s.conn) → IsOurs s.alone s.was s.found → IsAtRest over_files s
  -- what the store owes, told of the files; with what the host owes the rows are those that the files held
  pub made : OpensItsOwn start s
  pub rows : HasCleanDisk (file_state s.conn) → IsOurs s.alone s.was s.found → IsOpenedAgain start s
  pub agrees : Agrees given s.identity
  pub fresh : s.layout ≡ s.was
  pub unstopped : s.stopped ≡ false

-- rows whose tables were made in the files for this station, at this version
pub record AreMadeIn {D : Type 0} {g : Ghosts D} (start : Image) (i : Identity) (made_at : Version) (s : SqliteOf (FileStore D g)) : Type 0 where
  pub is_open : HasCleanDisk (file_state s.conn) → IsOurs s.alone s.was s.found → IsTrue (file_state s.conn).is_open
  pub rests : HasCleanDisk (file_state s.conn) → IsOurs s.alone s.was s.found → IsAtRest over_files s
  pub made : MakesItsOwn start s
  pub blank : HasCleanDisk (file_state s.conn) → IsOurs s.alone s.was s.found → HoldsNoRow over_files s
  pub identity : s.identity ≡ i
  pub layout : (s.was ≡ made_in made_at) × (s.layout ≡ s.was)
  pub version : rows_version s ≡ made_at
  pub unstopped : s.stopped ≡ false

-- the database file alone, without its log, holds the rows and the station, as it reads now and after a crash
pub record HoldsRowsAlone {D : Type 0} {g : Ghosts D} (s : SqliteOf (FileStore D g)) (files : Files D) : Type 0 where
  pub db : Trees
  pub same : SameRows (saved_of over_files s) (saved_in s.layout db)
  pub station : IsOfStation s.layout s.identity db
  pub seen : HoldsAlone (image_of g files) db
  pub left : (image : Image) → outcomes g files.log files.db image → HoldsAlone image db

-- where the rows went on, were the store's own, and the disk returned what was written, the database file alone holds them
abbrev pub KeepsRowsAlone : {D : Type 0} {g : Ghosts D} → SqliteOf (FileStore D g) → Files D → Type 0
KeepsRowsAlone {D} {g} s files = s.stopped ≡ false → IsOurs s.alone s.was s.found → AreClean g files.log files.db → HoldsRowsAlone s files
