-- What a call leaves of a connection that stands on the tables of a station.
use Rattle.std.proofs.Common.{◌≡◌, ◌≢◌, ◌⊎◌, inl, inr, ◌<◌, ◌≤◌, ℕ, true, false, IsTrue, is_some, map, refl, sym, ap, subst, ◌∙◌, arith, true≢false}
use Rattle.sqlite_trees.specs.declared.store.Store.{Ghosts}
use Rattle.sqlite_trees.specs.Tree.{Trees}
use Rattle.sqlite_trees.specs.View.{doubt}
use Rattle.sqlite.specs.Effect.{Database}
use Rattle.sqlite.specs.State.{State, HasCleanDisk, IsLive, IsUnchanged}
use Rattle.sqlite.specs.Held.{Held, state}
use Rattle.rows_table.specs.declared.layout.Layout.{Layout}
use Rattle.rows_table.specs.Tables.{layout_tree, layout_schema}
use Rattle.rows_table.specs.declared.layout.Layout.TheVariants.{One, Two}
use Rattle.rows_table.specs.declared.layout.LayoutOrigin.TheVariants.{Created, Upgraded}
use Rattle.rows_table.specs.Rows.{Serves, SavesIn, WasSaved, WasKept, columns_at}
use Rattle.rows_table.specs.Station.{HoldsNone, station_columns}
use Rattle.protocol.specs.Rows.{Row, blank}
use Rattle.rows_saved.specs.Saved.{SameRows, HasPromise}
use Rattle.rows_saved.specs.declared.identity.Identity.{Identity}
use Rattle.rows_saved.specs.Identity.{IsIdentity}
use Rattle.sqlite_trees.specs.Objects.{catalog_tree}
use Rattle.sqlite_catalog.specs.Listing.{Lists as ListsTables}
use Rattle.acceptor_store.specs.StationRow.{station_in}
use Rattle.acceptor_store.specs.Columns.{row_or_blank, columns_for, saved_in, ComesBack}
use Rattle.acceptor_store.specs.Layouts.{upgraded_from}
use Rattle.acceptor_store.specs.Sqlite.{HoldsRows, IsOfStation, HoldsAll, Stands, StemsFrom}
use Rattle.acceptor_store.proofs.SaveLemmas.{stays_sound, stays_station}
use Rattle.acceptor_store.proofs.IdentityLemmas.{added}

-- an upgrade of an upgraded layout is that layout
upgrades_once : (layout : Layout) → upgraded_from (upgraded_from layout) ≡ upgraded_from layout
upgrades_once One = refl
upgrades_once (Two origin) = refl

-- rows that are upgraded are in the layout that theirs is upgraded to
pub upgrade_stems : (was layout : Layout) → StemsFrom was layout → StemsFrom was (upgraded_from layout)
upgrade_stems was layout (inl same) = inr (ap upgraded_from same)
upgrade_stems was layout (inr by) = inr (ap upgraded_from by ∙ upgrades_once was)

-- the list of tables is in another tree than the rows
catalog_apart : (layout : Layout) → catalog_tree ≢ layout_tree layout
catalog_apart One e = absurd (omega (arith, e))
catalog_apart (Two Created) e = absurd (omega (arith, e))
catalog_apart (Two Upgraded) e = absurd (omega (arith, e))

-- the tables, the rows and the station that a database holds are its trees' alone
pub same_holds : (layout : Layout) (i : Identity) (old new : Database) → new ≡ old → IsOfStation layout i old.trees → IsOfStation layout i new.trees
same_holds layout i old new same h = subst (λ (d : Database). IsOfStation layout i d.trees) (sym same) h

-- a row that is saved leaves a database of the station
pub saved_station : (layout : Layout) (i : Identity) (old new : Trees) (n : ℕ) (row : Row) → HasPromise row → ComesBack layout row → 1 ≤ n → n ≤ 999999
    → SavesIn layout n (columns_for layout row) old new → IsOfStation layout i old → IsOfStation layout i new
saved_station layout i old new n row has back low high done held = record {
  tables = subst (λ objects. ListsTables objects (layout_schema layout)) (sym (done.others catalog_tree (catalog_apart layout))) held.tables;
  holds = record {
    sound = stays_sound layout old new n row has back done low high held.holds.sound;
    station = ap (λ rows. station_in (map station_columns rows)) (stays_station layout old new n row has back done) ∙ held.holds.station;
  };
}

-- so does what a crash leaves where it is saved
pub left_station : (layout : Layout) (i : Identity) (old left : Trees) (n : ℕ) (row : Row) → HasPromise row → 1 ≤ n → n ≤ 999999
    → IsOfStation layout i old → (left ≡ old) ⊎ (ComesBack layout row × SavesIn layout n (columns_for layout row) old left) → IsOfStation layout i left
left_station layout i old left n row has low high held (inl same) = subst (IsOfStation layout i) (sym same) held
left_station layout i old left n row has low high held (inr done) = saved_station layout i old left n row has done.0 low high done.1 held

pub same_rows : (layout : Layout) (old new : State) → new.now ≡ old.now → SameRows (saved_in layout old.now.trees) (saved_in layout new.now.trees)
same_rows layout old new same n = ap (λ (d : Database). saved_in layout d.trees n) same

pub was_clean : (old new : State) → doubt old.is_clean ≤ doubt new.is_clean → HasCleanDisk new → HasCleanDisk old
was_clean old new falls clean = omega (arith, falls, clean)

-- while it is open, a crash leaves the last commit
abbrev pub IsSettled : State → Type 0
IsSettled s = (db : Trees) → IsTrue s.is_open → s.may_leave db → db ≡ s.committed.trees

-- at rest, a crash leaves what there is
pub leaves_now : (layout : Layout) (s : State) → IsSettled s → Serves layout s → HasCleanDisk s → IsTrue s.is_open → (db : Trees) → s.may_leave db → db ≡ s.now.trees
leaves_now layout s law serves clean opened db left = law db opened left ∙ ap (λ (d : Database). d.trees) ((serves clean).1 opened).settled

-- what is there is the station's map, in its layout
pub holds_all : (layout : Layout) (i : Identity) (now db : Trees) → IsOfStation layout i now → db ≡ now → HoldsAll layout i (saved_in layout now) db
holds_all layout i now db holds same = record {
  layout = layout;
  either = inl refl;
  station = subst (IsOfStation layout i) (sym same) holds;
  same = λ n. ap (λ t. saved_in layout t n) same;
}

module _ {S : Type 0} (g : Ghosts S) (old new : Held S) (falls : doubt (state g old).is_clean ≤ doubt (state g new).is_clean) (layout : Layout) (i : Identity) (stands : Stands g layout old i) where
  -- after a reading
  pub stands_kept : (Serves layout (state g old) → Serves layout (state g new)) → (Serves layout (state g old) → HasCleanDisk (state g new) → IsTrue (state g new).is_open → WasKept (state g old) (state g new))
      → Stands g layout new i
  stands_kept serves kept = record {
    serves = serves stands.serves;
    holds = λ clean opened. let same = kept stands.serves clean opened in same_holds layout i (state g old).now (state g new).now same.same (stands.holds (was_clean (state g old) (state g new) falls clean) same.was_open);
  }

  module _ (n : ℕ) (row : Row) (has : HasPromise row) (low : 1 ≤ n) (high : n ≤ 999999) where
    saved_holds : ComesBack layout row → WasSaved layout n (columns_for layout row) (state g old) (state g new) → HasCleanDisk (state g new) → IsOfStation layout i (state g new).now.trees
    saved_holds back done clean =
        saved_station layout i (state g old).now.trees (state g new).now.trees n row has back low high done.saved.trees (stands.holds (was_clean (state g old) (state g new) falls clean) done.was_open)

    -- after a save
    pub stands_saved : ComesBack layout row → (Serves layout (state g old) → Serves layout (state g new))
        → (Serves layout (state g old) → HasCleanDisk (state g new) → WasSaved layout n (columns_for layout row) (state g old) (state g new)) → Stands g layout new i
    stands_saved back serves saved = record { serves = serves stands.serves; holds = λ clean opened. saved_holds back (saved stands.serves clean) clean }

-- a connection that was taken up stands on its tables
pub taken_stands : {S : Type 0} (g : Ghosts S) (old new : Held S) (layout : Layout) (i : Identity) → (state g old).now.schema ≡ layout_schema layout → IsLive (state g old)
    → (HasCleanDisk (state g new) → HoldsRows layout i (state g old).now.trees)
    → (HasCleanDisk (state g new) → Serves layout (state g new))
    → (HasCleanDisk (state g new) → IsUnchanged (state g old) (state g new)) → Stands g layout new i
taken_stands g old new layout i tables live holds serves same = record {
  serves = λ clean. serves clean clean;
  holds = λ clean opened.
      let stays = same clean in
      let lists : ListsTables ((state g old).now.trees catalog_tree) (layout_schema layout) = subst (ListsTables ((state g old).now.trees catalog_tree)) tables (live stays.0.was_open).0.lists in
      same_holds layout i (state g old).now (state g new).now stays.0.now_is (record { tables = lists; holds = holds clean });
}

-- the rows of a database that was just made
pub none_saved : (layout : Layout) (circuit member members : ℕ) (trees : Trees) → HoldsNone layout circuit member members trees → (n : ℕ) → saved_in layout trees n ≡ blank
none_saved layout circuit member members trees h n = ap (λ rows. row_or_blank layout (columns_at layout rows n)) h.rows

pub made_holds : (layout : Layout) (i : Identity) (trees : Trees) → IsIdentity i → i.circuit < 65536 → HoldsNone layout i.circuit i.member i.members trees → HoldsRows layout i trees
made_holds layout i trees is small made = record {
  sound = λ n c e. absurd (true≢false (ap is_some (sym e ∙ ap (λ rows. columns_at layout rows n) made.rows)));
  station = added layout i trees is small made;
}
