-- Saved rows that are seen one by one, as they are read.
use Rattle.std.specs.Prelude.{◌≡◌, ◌⊎◌, ◌++◌, ℕ, Bool, false, List, [], Option, None, Result, IfOk, IfErr, IfSome, IsSome, IsTrue}
use Rattle.std.specs.List.{filter_map}
use Rattle.sqlite_value.specs.Order.{Row as Columns}
use Rattle.protocol.specs.Rows.{Row}
use Rattle.sqlite.specs.State.{State, HasCleanDisk}
use Rattle.rows_table.specs.declared.layout.Layout.{Layout}
use Rattle.rows_table.specs.Tables.{layout_tree}
use Rattle.rows_table.specs.Rows.{Serves}
use Rattle.rows_table.specs.Reading.{KeepsServing}
use Rattle.rows_saved.specs.Saved.{Saved, IsListOf}
use Rattle.rows_saved.specs.declared.fault.RowsFault.{RowsFault}
use Rattle.acceptor_store.specs.Columns.{item_in, damage_in, saved_in, AreSound}
use Rattle.acceptor_store.specs.Sqlite.{IsRefusal}

-- where the connection is open, each row of its table is sound
abbrev pub HoldsSound : Layout → State → Type 0
HoldsSound layout s = IsTrue s.is_open → AreSound layout (s.now.trees (layout_tree layout))

-- the list that is the map begins with these numbers and rows
abbrev pub IsFrontOf : Saved → List (ℕ × Row) → Type 0
IsFrontOf saved items = (rest : List (ℕ × Row)) × IsListOf saved (items ++ rest)

-- the visitor is as it was, or it has seen the first numbers and rows of the map
abbrev pub SeesFront : {V : Type 0} → (V → V → List (ℕ × Row) → Type 0) → V → V → Saved → Type 0
SeesFront saw was now saved = (now ≡ was) ⊎ ((items : List (ℕ × Row)) × IsFrontOf saved items × saw was now items)

-- it has seen all of them
abbrev pub SeesAll : {V : Type 0} → (V → V → List (ℕ × Row) → Type 0) → V → V → Saved → Type 0
SeesAll saw was now saved = (items : List (ℕ × Row)) × IsListOf saved items × saw was now items

-- ---- of a connection that serves and holds sound rows, where the disk returned what was written: its state is `old` before the call, `new` after it

-- where an Ok says that these were all rows, the visitor has seen all that are saved
abbrev pub ShowsAll : {V E : Type 0} → Layout → (V → V → List (ℕ × Row) → Type 0) → V → V → Result Bool E → State → State → Type 0
ShowsAll layout saw before after result old new =
    Serves layout old → HasCleanDisk new → HoldsSound layout old
    → IfOk result (λ all. IsTrue all → SeesAll saw before after (saved_in layout old.now.trees))

-- however it ends, the visitor is as it was, or it has seen the first of them
abbrev pub ShowsFront : {V : Type 0} → Layout → (V → V → List (ℕ × Row) → Type 0) → V → V → State → State → Type 0
ShowsFront layout saw before after old new =
    Serves layout old → HasCleanDisk new → HoldsSound layout old → SeesFront saw before after (saved_in layout old.now.trees)

-- a refusal speaks of no row
abbrev pub BlamesNoRow : {A : Type 0} → Layout → Result A RowsFault → State → State → Type 0
BlamesNoRow layout result old new = Serves layout old → HasCleanDisk new → HoldsSound layout old → IfErr result IsRefusal

-- the rows are shown to a visitor one by one, in order of their numbers, until it has enough
pub record ShowsRows {V : Type 0} (layout : Layout) (saw : V → V → List (ℕ × Row) → Type 0) (has_enough : V → Type 0)
    (before after : V) (result : Result Bool RowsFault) (old new : State) : Type 0 where
  pub seen : ShowsAll layout saw before after result old new
  -- where these were not all, it wants no more
  pub enough : IfOk result (λ all. all ≡ false → has_enough after)
  pub front : ShowsFront layout saw before after old new
  -- it has seen some rows, and nothing else
  pub only : (items : List (ℕ × Row)) × saw before after items
  pub serving : KeepsServing layout result old new
  -- sound rows are not damaged
  pub refusal : BlamesNoRow layout result old new

-- ---- of the rows of a listing

-- of these rows of a listing the visitor has seen the first: all of them where there is no fault, and a fault that speaks of a row is a damage among them
pub record HasSeen {V : Type 0} (saw : V → V → List (ℕ × Row) → Type 0)
    (layout : Layout) (fault : Option RowsFault) (was now : V) (rows : List Columns) : Type 0 where
  pub seen : List Columns
  pub unseen : List Columns
  pub are : rows ≡ seen ++ unseen
  pub all : fault ≡ None → unseen ≡ []
  pub saw_them : saw was now (filter_map (item_in layout) seen)
  pub cause : IfSome fault (λ f. IsRefusal f ⊎ IsSome (damage_in layout rows))
