-- What a closed file holds.
use Rattle.std.proofs.Common.{IsTrue, ap, sym, subst}
use Rattle.std.proofs.Math.Logic.{∥∥₁_map}
use Rattle.sqlite_disk.specs.declared.Disk.{Ghosts}
use Rattle.sqlite_disk.specs.declared.Files.{Files}
use Rattle.sqlite.specs.declared.FileStore.{FileStore}
use Rattle.sqlite.specs.Closing.{IsCopied}
use Rattle.sqlite.specs.Effect.{Database}
use Rattle.sqlite.specs.WalReads.{AreClean}
use Rattle.sqlite.specs.Files.{file_state, over_files}
use Rattle.sqlite.specs.Held.{Held}
use Rattle.acceptor_store.specs.Columns.{saved_in}
use Rattle.acceptor_store.specs.Files.{HoldsRowsAlone}
use Rattle.acceptor_store.specs.Restarts.{GivesUp}
use Rattle.acceptor_store.specs.Sqlite.{SqliteOf, IsOfStation, Stands}

-- the last commit is what the database holds, and that is the rows
pub holds_alone : {D : Type 0} {g : Ghosts D} (s : SqliteOf (FileStore D g)) (files : Files D) → Stands over_files s.layout s.conn s.identity → IsCopied s.conn files → HoldsRowsAlone s files
holds_alone s files stands copied =
    let rests = (stands.serves copied.was_clean).1 copied.was_open in
    record {
      db = (file_state s.conn).committed.trees;
      same = λ n. ap (λ (d : Database). saved_in s.layout d.trees n) rests.settled;
      station = subst (λ (d : Database). IsOfStation s.layout s.identity d.trees) (sym rests.settled) (stands.holds copied.was_clean copied.was_open);
      seen = copied.seen;
      left = copied.left;
    }

-- closed files hold the last commit, which a crash could leave while the connection was open
pub closed_gives_up : {D : Type 0} (g : Ghosts D) (conn : Held (FileStore D g)) (files : Files D)
    → (IsTrue (file_state conn).is_open → (file_state conn).may_leave (file_state conn).committed.trees)
    → (AreClean g files.log files.db → IsCopied conn files) → GivesUp g conn files
closed_gives_up g conn files stays copied clean left may =
    let whole = copied clean in
    ∥∥₁_map (whole.left left may).both (λ holds. ((file_state conn).committed.trees, stays whole.was_open, holds))
