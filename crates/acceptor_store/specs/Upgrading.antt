-- What an upgrade leaves of a connection that is at rest on the tables of a station: `old` before the call, `new` after it.
-- All of it is said where the disk returned what was written.
use Rattle.std.specs.Prelude.{◌≡◌, ◌≤◌, List, Result, IfErr, OnOk, OnErr, IsTrue}
use Rattle.sqlite_value.specs.Order.{Row as Columns}
use Rattle.sqlite_trees.specs.declared.store.Store.{Ghosts}
use Rattle.sqlite_trees.specs.Tree.{Trees}
use Rattle.sqlite_trees.specs.View.{doubt}
use Rattle.sqlite.specs.State.{HasCleanDisk}
use Rattle.sqlite.specs.Held.{Held, state}
use Rattle.rows_table.specs.declared.layout.Layout.{Layout}
use Rattle.rows_table.specs.declared.layout.LayoutOrigin.{LayoutOrigin}
use Rattle.rows_table.specs.declared.layout.Layout.TheVariants.{One, Two}
use Rattle.rows_table.specs.Rows.{WasKept}
use Rattle.rows_saved.specs.declared.identity.Identity.{Identity}
use Rattle.rows_saved.specs.declared.fault.RowsFault.{RowsFault}
use Rattle.acceptor_store.specs.Columns.{saved_in}
use Rattle.acceptor_store.specs.RowsAsEntries.{HoldsMap}
use Rattle.acceptor_store.specs.Sqlite.{HoldsAll, IsRefusal, Stands, UpgradedRows}

module _ {S : Type 0} (g : Ghosts S) where
  -- an Ok has gone over from this layout to the tables that an upgrade leaves, or found them
  abbrev pub UpgradesRows : {A E : Type 0} → Layout → Result A E → Held S → Held S → Type 0
  UpgradesRows layout result old new =
      (i : Identity) → Stands g layout old i → HasCleanDisk (state g new) → OnOk result (UpgradedRows g layout i old new)

  -- of a layout that is over already, an Ok has left it so
  abbrev pub StaysUpgraded : {A E : Type 0} → Layout → Result A E → Held S → Held S → Type 0
  StaysUpgraded layout result old new =
      (origin : LayoutOrigin) (i : Identity) → layout ≡ Two origin → Stands g (Two origin) old i → HasCleanDisk (state g new)
      → OnOk result (UpgradedRows g (Two origin) i old new)

  -- a refusal keeps all while the connection is open
  abbrev pub KeepsAllWhereRefused : {A E : Type 0} → Layout → Result A E → Held S → Held S → Type 0
  KeepsAllWhereRefused layout result old new =
      (i : Identity) → Stands g layout old i → HasCleanDisk (state g new) → IsTrue (state g new).is_open
      → OnErr result (WasKept (state g old) (state g new))

  -- a crash leaves a database of the station with the same map, in this layout or upgraded from it
  abbrev pub CrashesWithSameMap : Layout → Held S → Held S → Type 0
  CrashesWithSameMap layout old new =
      (i : Identity) → Stands g layout old i → IsTrue (state g old).is_open → HasCleanDisk (state g new)
      → (db : Trees) → (state g new).may_leave db → HoldsAll layout i (saved_in layout (state g old).now.trees) db

  -- a connection that stands is refused for no row
  abbrev pub BlamesNoRowOf : {A : Type 0} → Layout → Result A RowsFault → Held S → Held S → Type 0
  BlamesNoRowOf layout result old new = (i : Identity) → Stands g layout old i → HasCleanDisk (state g new) → IfErr result IsRefusal

  -- an upgrade from this layout
  pub record Upgrades {A : Type 0} (layout : Layout) (result : Result A RowsFault) (old new : Held S) : Type 0 where
    pub over : UpgradesRows layout result old new
    pub kept : KeepsAllWhereRefused layout result old new
    pub crash : CrashesWithSameMap layout old new
    -- no fault of the disk is forgotten
    pub clean : doubt (state g old).is_clean ≤ doubt (state g new).is_clean
    pub refusal : BlamesNoRowOf layout result old new

  -- a test of a layout that is over already
  pub record TestsUpgraded {A : Type 0} (layout : Layout) (result : Result A RowsFault) (old new : Held S) : Type 0 where
    pub over : StaysUpgraded layout result old new
    pub kept : KeepsAllWhereRefused layout result old new
    pub crash : CrashesWithSameMap layout old new
    -- no fault of the disk is forgotten
    pub clean : doubt (state g old).is_clean ≤ doubt (state g new).is_clean
    pub refusal : IfErr result IsRefusal

  -- where a table of entries holds the map of layout 1, an Ok has gone over
  abbrev pub UpgradesRowsWith : {A E : Type 0} → List Columns → Result A E → Held S → Held S → Type 0
  UpgradesRowsWith entries result old new =
      (i : Identity) → Stands g One old i → HoldsMap (saved_in One (state g old).now.trees) entries
      → IsTrue (state g old).is_open → HasCleanDisk (state g new) → OnOk result (UpgradedRows g One i old new)

  -- and a crash leaves a database of the station with the same map, in layout 1 or upgraded from it
  abbrev pub CrashesWithMapOf : List Columns → Held S → Held S → Type 0
  CrashesWithMapOf entries old new =
      (i : Identity) → Stands g One old i → HoldsMap (saved_in One (state g old).now.trees) entries
      → IsTrue (state g old).is_open → HasCleanDisk (state g new)
      → (db : Trees) → (state g new).may_leave db → HoldsAll One i (saved_in One (state g old).now.trees) db

  -- an upgrade from layout 1 with these entries
  pub record MovesEntries {A : Type 0} (entries : List Columns) (result : Result A RowsFault) (old new : Held S) : Type 0 where
    pub over : UpgradesRowsWith entries result old new
    pub kept : KeepsAllWhereRefused One result old new
    pub crash : CrashesWithMapOf entries old new
    -- no fault of the disk is forgotten
    pub clean : doubt (state g old).is_clean ≤ doubt (state g new).is_clean
    pub refusal : IfErr result IsRefusal
