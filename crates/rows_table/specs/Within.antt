-- What an act in a transaction does, and how a whole transaction ends: `old` is the transaction, or the state of the connection, before the call, `new` after it.
use Rattle.std.specs.Prelude.{◌≡◌, ◌≤◌, Result, OnOk, IsTrue}
use Rattle.sqlite_trees.specs.View.{doubt}
use Rattle.sqlite_trees.specs.declared.store.Store.{Ghosts}
use Rattle.sqlite.specs.declared.transaction.Transaction.{Transaction}
use Rattle.sqlite.specs.Held.{state}
use Rattle.sqlite.specs.State.{State, HasCleanDisk, KeepsCommit, Survives}
use Rattle.rows_table.specs.Keeping.{RolledBackWhereRefused, WasOpenWhereRefused}

-- an act in a transaction: an Ok has done this, the transaction is open after it, and nothing is committed
pub record ActsWithin {S A E : Type 0} (g : Ghosts S) (Does : State → State → Type 0) (result : Result A E) (old new : Transaction S) : Type 0 where
  -- the transaction is of the connection that it was of
  pub same_reference : new.conn.ghost_name ≡ old.conn.ghost_name
  -- an Ok has done it, where the disk returned what was written
  pub done : HasCleanDisk (state g new.conn.now) → OnOk result (Does (state g old.conn.now) (state g new.conn.now))
  -- a transaction that was open is open after an Ok
  pub inside : HasCleanDisk (state g new.conn.now) → IsTrue (state g old.conn.now).in_transaction → OnOk result (IsTrue (state g new.conn.now).in_transaction)
  -- nothing is committed
  pub kept : HasCleanDisk (state g new.conn.now) → IsTrue (state g old.conn.now).in_transaction → KeepsCommit (state g old.conn.now) (state g new.conn.now)
  -- a crash leaves nothing that it could not have left before
  pub survives : Survives (state g old.conn.now) (state g new.conn.now) (λ _. ⊥)

-- a whole transaction: a refusal undoes it, and no fault of the disk is forgotten
pub record EndsWhole {A E : Type 0} (result : Result A E) (old new : State) : Type 0 where
  pub was_open : WasOpenWhereRefused result old new
  pub neither : RolledBackWhereRefused result old new
  pub clean : doubt old.is_clean ≤ doubt new.is_clean
