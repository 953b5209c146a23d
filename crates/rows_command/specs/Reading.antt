-- What becomes of saved rows while a command is at them.
use Rattle.std.specs.Prelude.{◌≡◌, ℕ, Bool, List, Option, Result, IfErr, IsErr, IsTrue}
use Rattle.sqlite_trees.specs.declared.store.Store.{Ghosts}
use Rattle.rows_saved.specs.Saved.{Saved, SameRows}
use Rattle.acceptor_store.specs.Sqlite.{SqliteOf, IsKept, IsOpen, MayLeave, saved_of}
use Rattle.command_ends.specs.Ends.{end_of, IsOfRows}
use Rattle.command_ends.specs.declared.fault.Fault.{Fault}
use Rattle.rows_command.specs.Printing.{PrintsAllWhereOk}
use Rattle.rows_command.specs.RowsText.{PrintsNoneOrFront}

-- rows that are kept afterwards are those that were kept before
pub record KeepsRows {S : Type 0} (g : Ghosts S) (old new : SqliteOf S) : Type 0 where
  -- the map stays the same
  pub same : IsKept g new → IsOpen g new → SameRows (saved_of g old) (saved_of g new)
  -- what is kept was kept
  pub was_kept : IsKept g new → IsKept g old
  -- and what is open was open
  pub was_open : IsKept g new → IsOpen g new → IsOpen g old

-- rows were read, and none was written
pub record OnlyReads {S : Type 0} (g : Ghosts S) (old new : SqliteOf S) : Type 0 where
  -- they are those that were kept
  pub keeps : KeepsRows g old new
  -- a crash leaves no map that it could not have left before
  pub crash : IsKept g new → IsOpen g old → (left : Saved) → MayLeave g new left → MayLeave g old left
  -- whether a save was refused and whose rows they are stays
  pub stays : (new.stopped ≡ old.stopped) × (new.identity ≡ old.identity)

-- rows were written out as they were read: the rows and the output before and after
pub record PrintsRows {S : Type 0} (g : Ghosts S) (rows rows_after : SqliteOf S) (out out_after : Option (List ℕ)) : Type 0 where
  -- nothing was written, or a front of the text of all rows
  pub front : IsKept g rows_after → PrintsNoneOrFront (saved_of g rows) rows.identity out out_after
  -- no row was
  pub reads : OnlyReads g rows rows_after
  -- after a refused save nothing is written
  pub stopped : IsTrue rows.stopped → out_after ≡ out

-- so they were up to the last, or to a fault of the rows, the output or memory: whether one has come, and how it ended
pub record PrintsSeen {S : Type 0} (g : Ghosts S) (result : Bool × Result Unit Fault) (rows rows_after : SqliteOf S) (out out_after : Option (List ℕ)) : Type 0 where
  -- up to the last, all were written
  pub all : IsKept g rows_after → PrintsAllWhereOk result (saved_of g rows) rows.identity out out_after
  pub prints : PrintsRows g rows rows_after out out_after
  pub ends : IfErr result.1 (λ fault. IsOfRows (end_of fault))
  -- after a refused save none is
  pub refuses : IsTrue rows.stopped → IsErr result.1
