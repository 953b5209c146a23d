-- Calls on saved rows: when they are refused, and what stands before and after.
use Rattle.std.specs.Prelude.{◌≤◌, ℕ, Result, IfErr, OnOk, OnErr}
use Rattle.rows_saved.specs.Saved.{Rises}
use Rattle.rows_saved.specs.declared.fault.RowsFault.{RowsFault}

-- a call on rows, however it ends: it is refused only where the count rises, which never falls, and what held as it ended held before
pub record Called {T R : Type 0} (kept is_open made : R → Type 0) (refusals : R → ℕ) (result : Result T RowsFault) (old new : R) : Type 0 where
  -- it is refused only where the count rises
  pub cause : OnErr result (Rises (refusals old) (refusals new))
  pub counts : refusals old ≤ refusals new
  -- the store's half, told forwards: rows that lie in what was made for them stay there
  pub stay_made : made old → made new
  -- what held as the call ended held before
  pub was_kept : kept new → kept old
  pub was_open : kept new → is_open new → is_open old

-- a call on a row or on all: rows that answer are open, and a refusal has the fault that they blame
pub record Answered {T R : Type 0} (kept is_open made : R → Type 0) (refusals : R → ℕ) (blaming : R → R → RowsFault → Type 0)
    (result : Result T RowsFault) (old new : R) : Type 0 where
  pub call : Called kept is_open made refusals result old new
  pub opened : kept new → OnOk result (is_open new)
  pub blames : IfErr result (blaming old new)
