-- What an upgrade leaves of a connection that stands on the tables of layout 1.
use Rattle.std.proofs.Common.{◌≡◌, ◌≤◌, ◌⊎◌, inl, inr, List, IsTrue, Result, Ok, Err, OnOk, OnErr, refl, sym, ap, subst, ◌∙◌}
use Rattle.sqlite_value.specs.Order.{Row as Columns}
use Rattle.sqlite_trees.specs.declared.store.Store.{Ghosts}
use Rattle.sqlite_trees.specs.Tree.{Trees}
use Rattle.sqlite_trees.specs.View.{doubt}
use Rattle.sqlite.specs.Effect.{Database}
use Rattle.sqlite.specs.State.{HasCleanDisk}
use Rattle.sqlite.specs.Held.{Held, state}
use Rattle.rows_table.specs.Tables.{row_schema}
use Rattle.rows_table.specs.declared.layout.Layout.TheVariants.{One, Two}
use Rattle.rows_table.specs.declared.layout.LayoutOrigin.TheVariants.{Upgraded}
use Rattle.rows_table.specs.Rows.{Serves, AreRows, WasKept}
use Rattle.rows_table.specs.Entries.{HasLayoutOne, IsUpgraded, WasUpgraded}
use Rattle.rows_saved.specs.Saved.{SameRows}
use Rattle.rows_saved.specs.declared.identity.Identity.{Identity}
use Rattle.acceptor_store.specs.Columns.{saved_in, saved_at, AreSound}
use Rattle.acceptor_store.specs.RowsAsEntries.{HoldsMap}
use Rattle.acceptor_store.specs.Sqlite.{IsOfStation, HoldsAll, Stands, UpgradedRows}
use Rattle.acceptor_store.proofs.IdentityLemmas.{lies_in_one, upgraded_station}
use Rattle.acceptor_store.proofs.StandLemmas.{IsSettled, was_clean, leaves_now, holds_all}

-- a database that was upgraded with entries that hold its map holds the station and the same map
module _ (i : Identity) (before db : Trees) (rows : List Columns) (held : IsOfStation One i before) (map : HoldsMap (saved_in One before) rows) (up : IsUpgraded before rows db) where
  pub moved_station : IsOfStation (Two Upgraded) i db
  moved_station = record {
    tables = up.tables;
    holds = record {
      sound = subst (AreSound (Two Upgraded)) (sym up.entries) map.sound;
      station = upgraded_station i before db rows held.holds.station up;
    };
  }

  pub moved_map : SameRows (saved_in One before) (saved_in (Two Upgraded) db)
  moved_map n = ap (λ table. saved_at (Two Upgraded) table n) up.entries ∙ map.same n

  pub moved_all : HoldsAll One i (saved_in One before) db
  moved_all = record { layout = Two Upgraded; either = inr refl; station = moved_station; same = moved_map }

module _ {S : Type 0} (g : Ghosts S) (old new : Held S) (falls : doubt (state g old).is_clean ≤ doubt (state g new).is_clean) (i : Identity) (stands : Stands g One old i)
    (law_old : IsSettled (state g old)) (law_new : IsSettled (state g new)) (rows : List Columns) (opened : IsTrue (state g old).is_open) (clean : HasCleanDisk (state g new)) where
  early : HasCleanDisk (state g old)
  early = was_clean (state g old) (state g new) falls clean

  held : IsOfStation One i (state g old).now.trees
  held = stands.holds early opened

  -- the tables and the station are as the upgrade asks
  pub laid : (state g old).now.schema ≡ row_schema
  laid = ((stands.serves early).1 opened).schema

  pub lies : HasLayoutOne (state g old).now.trees
  lies = lies_in_one i (state g old).now.trees held.holds.station

  -- after its Ok
  pub went_over : HoldsMap (saved_in One (state g old).now.trees) rows → WasUpgraded (state g old).now.trees rows (state g new) → UpgradedRows g One i old new
  went_over map up =
      let entries = up.holds.entries in
      let serves : Serves (Two Upgraded) (state g new) = λ _. (up.alone, λ _. record { schema = up.schema; rows = subst AreRows (sym entries) map.rows; settled = up.settled }) in
      record {
        was_open = opened;
        is_open = up.is_open;
        stands = record { serves = serves; holds = λ _ _. moved_station i (state g old).now.trees (state g new).now.trees rows held map up.holds };
        same = moved_map i (state g old).now.trees (state g new).now.trees rows held map up.holds;
        crash = leaves_now (Two Upgraded) (state g new) law_new serves clean up.is_open;
      }

  -- whatever comes of it
  pub left_by : HoldsMap (saved_in One (state g old).now.trees) rows → (db : Trees) → (state g old).may_leave db ⊎ IsUpgraded (state g old).now.trees rows db → HoldsAll One i (saved_in One (state g old).now.trees) db
  left_by map db (inl before) = holds_all One i (state g old).now.trees db held (leaves_now One (state g old) law_old stands.serves early opened db before)
  left_by map db (inr up) = moved_all i (state g old).now.trees db rows held map up

-- ---- after the rows were read

pub ok_after : {A E : Type 0} (r : Result A E) (P Q : Type 0) → (P → Q) → OnOk r P → OnOk r Q
ok_after (Ok a) P Q f p = f p
ok_after (Err e) P Q f p = tt

pub err_after : {A E : Type 0} (r : Result A E) (P Q : Type 0) → (P → Q) → OnErr r P → OnErr r Q
err_after (Ok a) P Q f p = tt
err_after (Err e) P Q f p = f p

module _ {S : Type 0} (g : Ghosts S) (i : Identity) (old mid new : Held S) where
  pub over_since : WasKept (state g old) (state g mid) → UpgradedRows g One i mid new → UpgradedRows g One i old new
  over_since kept over = record {
    was_open = kept.was_open;
    is_open = over.is_open;
    stands = over.stands;
    same = λ n. over.same n ∙ ap (λ (d : Database). saved_in One d.trees n) kept.same;
    crash = over.crash;
  }

  pub kept_since : (IsTrue (state g mid).is_open → WasKept (state g old) (state g mid)) → WasKept (state g mid) (state g new) → WasKept (state g old) (state g new)
  kept_since kept now = let before = kept now.was_open in record { was_open = before.was_open; same = now.same ∙ before.same }

  pub left_since : WasKept (state g old) (state g mid) → (db : Trees) → HoldsAll One i (saved_in One (state g mid).now.trees) db → HoldsAll One i (saved_in One (state g old).now.trees) db
  left_since kept db all = subst (λ (d : Database). HoldsAll One i (saved_in One d.trees) db) kept.same all
