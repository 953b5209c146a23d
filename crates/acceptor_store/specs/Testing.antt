-- Rows that are tested one by one, as they are read.
use Rattle.std.specs.Prelude.{◌≡◌, ◌++◌, ◌∷◌, ◌&&◌, true, List, None, Result, IfErr, OnOk}
use Rattle.sqlite_value.specs.Order.{Row as Columns}
use Rattle.sqlite_trees.specs.Tree.{Trees}
use Rattle.rows_table.specs.declared.layout.Layout.{Layout}
use Rattle.rows_table.specs.Tables.{layout_tree}
use Rattle.rows_table.specs.Rows.{AreRows}
use Rattle.rows_table.specs.Rising.{rise_from}
use Rattle.rows_saved.specs.declared.fault.RowsFault.{RowsFault}
use Rattle.acceptor_store.specs.Columns.{damage_in, first_of, AreSound}
use Rattle.acceptor_store.specs.Sqlite.{Lists, RefusesRows}
use Rattle.acceptor_store.specs.declared.row_test.RowTest.{RowTest}

-- a test of rows in this layout, before the first of them
abbrev pub begun : Layout → RowTest
begun layout = record { layout = layout; damage = None; last = None; rising = true }

-- whatever rows come after these, the first damage in all from the one test is the first in those from the other
abbrev pub FindsSameDamage : RowTest → RowTest → List Columns → Type 0
FindsSameDamage old new rows =
    (more : List Columns)
    → first_of old.damage (damage_in old.layout (rows ++ more)) ≡ first_of new.damage (damage_in old.layout more)

-- whatever rows come after this one, the numbers of all rise from the one test where the numbers of those rise from the other
abbrev pub RisesWith : Columns → RowTest → RowTest → Type 0
RisesWith row old new =
    (rows : List Columns) → (old.rising && rise_from old.last (row ∷ rows)) ≡ (new.rising && rise_from new.last rows)

-- these rows lead from the one test to the other: whatever rows come after them, the same is found in all from the one as in those after them from the other
pub record LeadsTo (old new : RowTest) (rows : List Columns) : Type 0 where
  pub layout : new.layout ≡ old.layout
  pub damage : FindsSameDamage old new rows
  pub rises : (more : List Columns) → (old.rising && rise_from old.last (rows ++ more)) ≡ (new.rising && rise_from new.last more)

-- of a table whose rows the test has had to the end, an Ok says that each is there once and is sound
abbrev pub PassesSoundRows : {A E : Type 0} → RowTest → Result A E → Type 0
PassesSoundRows test result =
    (layout : Layout) (trees : Trees) → Lists layout trees (LeadsTo (begun layout) test)
    → OnOk result (AreRows (trees (layout_tree layout)) × AreSound layout (trees (layout_tree layout)))

-- the fault of a refusal is a reason not to take up its rows
abbrev pub RefusesUnsoundRows : {A : Type 0} → RowTest → Result A RowsFault → Type 0
RefusesUnsoundRows test result =
    (layout : Layout) (trees : Trees) → Lists layout trees (LeadsTo (begun layout) test) → IfErr result (RefusesRows layout trees)
