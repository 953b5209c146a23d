-- Rows that are saved together: a list of numbers, each with the row that is saved under it.
use Rattle.std.specs.Prelude.{◌≡◌, ◌⊎◌, ◌≤◌, ◌==◌, ℕ, if◌then◌else◌, List, [], ◌∷◌, length, take, Option, Some, None, Result, OnOk, OnErr}
use Rattle.std.specs.List.{AllByRecursion}
use Rattle.protocol.specs.Rows.{Row}
use Rattle.protocol.specs.Versions.{Version}
use Rattle.rows_saved.specs.Saved.{Saved, SameRows, with_row, HasPromise, AreFitting}
use Rattle.rows_saved.specs.Called.{IsCalled}
use Rattle.rows_saved.specs.declared.fault.RowsFault.{RowsFault}
use Rattle.rows_saved.specs.declared.rows.Rows.{Ghosts}

-- the map once each of these rows was put under its number, one after the other
abbrev pub with_all : Saved → List (ℕ × Row) → Saved
with_all saved [] = saved
with_all saved (p ∷ ps) = with_all (with_row saved p.0 p.1) ps

-- each number has the row that these leave it
abbrev pub WithAll : Saved → List (ℕ × Row) → Saved → Type 0
WithAll old items new = (n : ℕ) → new n ≡ with_all old items n

-- none of these was put, or each
abbrev pub IsAllOrNone : Saved → List (ℕ × Row) → Saved → Type 0
IsAllOrNone old items new = SameRows old new ⊎ WithAll old items new

-- each row of a list has a promise
abbrev pub ArePromised : List (ℕ × Row) → Type 0
ArePromised items = AllByRecursion (λ p. HasPromise p.1) items

-- so many of the first of these rows were put, each under its number
pub record WithSome (old : Saved) (items : List (ℕ × Row)) (new : Saved) : Type 0 where
  pub many : ℕ
  pub within : many ≤ length items
  pub saved : WithAll old (take many items) new

-- the first of two rows, if any
abbrev pub or_this : Option Row → Option Row → Option Row
or_this None other = other
or_this (Some row) other = Some row

-- the row that stands last under a number, if any
abbrev pub last_of : List (ℕ × Row) → ℕ → Option Row
last_of [] n = None
last_of (p ∷ ps) n = or_this (last_of ps n) (if n == p.0 then Some p.1 else None)

-- each of these rows has a promise, and the version has it
pub record AreRowsOf (version : Version) (items : List (ℕ × Row)) : Type 0 where
  pub promised : ArePromised items
  pub fits : AreFitting version items

-- these rows were put one after the other, each under its number, or a refusal left the first so many, or shut what they are put in; its version stays
pub record PutsAll {R : Type 0} (g : Ghosts R) (result : Result Unit RowsFault) (items : List (ℕ × Row)) (old new : R) : Type 0 where
  pub rows : g.kept new → OnOk result (WithAll (g.saved old) items (g.saved new))
  pub opened : g.kept new → g.is_open old → OnOk result (g.is_open new)
  pub version : g.version new ≡ g.version old
  -- where it is refused and still open, the first so many are saved
  pub first : g.kept new → OnErr result ((¬ g.is_open new) ⊎ WithSome (g.saved old) items (g.saved new))
  pub call : IsCalled g result old new
