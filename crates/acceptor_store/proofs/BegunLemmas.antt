-- What an open finds in files that a start has made of what a crash left is what the crash left.
use Rattle.std.proofs.Common.{◌≡◌, ◌≢◌, ◌⊎◌, refl, sym, ap, subst, ◌∙◌, arith}
use Rattle.std.specs.Prelude.{map}
use Rattle.std.proofs.Math.Logic.{∥∥₁_elim, ∥∥₁_map}
use Rattle.std.specs.Coded.{Coded-set}
use Rattle.sqlite_disk.specs.declared.Disk.{Ghosts}
use Rattle.sqlite_disk.specs.declared.Files.{Files}
use Rattle.sqlite.specs.WalReads.{AreClean}
use Rattle.sqlite.specs.WalFiles.{outcomes}
use Rattle.sqlite.specs.Recovery.{Image}
use Rattle.sqlite_trees.specs.Tree.{Trees}
use Rattle.sqlite_trees.specs.Objects.{catalog_tree, version_tree}
use Rattle.sqlite_catalog.specs.Listing.{Lists as ListsTables}
use Rattle.sqlite.specs.declared.FileStore.{FileStore}
use Rattle.sqlite.specs.Effect.{Database}
use Rattle.sqlite.specs.Held.{Held}
use Rattle.sqlite.specs.Files.{file_state, over_files, IsOpened}
use Rattle.sqlite.specs.Start.{FindsIn}
use Rattle.rows_table.specs.declared.layout.Layout.{Layout}
use Rattle.rows_table.specs.declared.layout.Layout.TheVariants as layouts
use Rattle.rows_table.specs.declared.layout.LayoutOrigin.TheVariants.{Created, Upgraded}
use Rattle.rows_table.specs.Tables.{layout_schema, layout_tree, station_tree}
use Rattle.rows_table.specs.Station.{station_columns}
use Rattle.rows_table.specs.contracts.layout.Layout as layout_code
use Rattle.rows_saved.specs.contracts.identity.Identity as identity
use Rattle.rows_saved.specs.declared.identity.Identity.{Identity}
use Rattle.acceptor_store.specs.Columns.{AreSound, saved_in, saved_at, version_in}
use Rattle.acceptor_store.specs.Layouts.{upgraded_from}
use Rattle.rows_saved.specs.Saved.{Saved}
use Rattle.ballots.specs.contracts.row.Row as row
use Rattle.acceptor_store.specs.StationRow.{station_in}
use Rattle.acceptor_store.specs.Sqlite.{IsOfStation, HoldsAll, rows_version, saved_of}
use Rattle.acceptor_store.specs.Restarts.{GivesUp}
use Rattle.acceptor_store.specs.Begun.{SameTables, HoldAllOf, OpensWhatIsBegun, BegunAtRestLosesNothing, GroupOutlivesBegun, UpgradeOutlivesBegun}
use Rattle.acceptor_store.proofs.RestartLemmas.{same_rows, told_apart, version_after, ours_prop, found_ours, now_layout, taken_rows, taken_station}

-- the user version is in no tree of the store's
catalog_apart : catalog_tree ≢ version_tree
catalog_apart e = omega (arith, e)

station_apart : station_tree ≢ version_tree
station_apart e = omega (arith, e)

rows_apart : (layout : Layout) → layout_tree layout ≢ version_tree
rows_apart layouts.One e = omega (arith, e)
rows_apart (layouts.Two Created) e = omega (arith, e)
rows_apart (layouts.Two Upgraded) e = omega (arith, e)

still_of_station : (layout : Layout) (i : Identity) (db now : Trees) → SameTables db now → IsOfStation layout i db → IsOfStation layout i now
still_of_station layout i db now same of = record {
  tables = subst (λ rows. ListsTables rows (layout_schema layout)) (sym (same catalog_tree catalog_apart)) of.tables;
  holds = record {
    sound = subst (AreSound layout) (sym (same (layout_tree layout) (rows_apart layout))) of.holds.sound;
    station = ap (λ rows. station_in (map station_columns rows)) (same station_tree station_apart) ∙ of.holds.station;
  };
}

still_rows : (layout : Layout) (db now : Trees) → SameTables db now → saved_in layout now ≡ saved_in layout db
still_rows layout db now same = ap (saved_at layout) (same (layout_tree layout) (rows_apart layout))

module _ {D : Type 0} {g : Ghosts D} {E : Type 0} {h : Ghosts E} (conn : Held (FileStore D g)) (files : Files D) (left begun : Image) (gives : GivesUp g conn files)
    (clean : AreClean g files.log files.db) (may : outcomes g files.log files.db left) (holds : HoldAllOf left begun)
    (station : (db : Trees) → (file_state conn).may_leave db → (layout : Layout) × (i : Identity) × IsOfStation layout i db) where
  -- an open found a database that the crash could leave, except the user version
  found_begun : (was : Held (FileStore E h)) → IsOpened was → FindsIn begun (file_state was) → ∥ ((db : Trees) × (file_state conn).may_leave db × SameTables db (file_state was).now.trees) ∥₁
  found_begun was opened found =
      ∥∥₁_elim (gives clean left may) squash₁ (λ db.
      let of = station db.0 db.1 in
      ∥∥₁_map (holds of.0 of.1 db.0 of.2 db.2) (λ now.
      let is : now.0 ≡ (file_state was).now.trees = sym (ap (λ (d : Database). d.trees) opened.0.clean ∙ found.holds now.0 now.2) in
      (db.0, db.1, subst (SameTables db.0) is now.1)))

pub opens_begun : {D : Type 0} {g : Ghosts D} {E : Type 0} {h : Ghosts E} → OpensWhatIsBegun D g E h
opens_begun {h = h} s i files left begun again leaves gives clean may holds opened =
    let made = opened.made in
    let trees0 = (file_state made.was).now.trees in
    let station : (db : Trees) → (file_state s.conn).may_leave db → (layout : Layout) × (j : Identity) × IsOfStation layout j db = λ db may_be. (s.layout, i, leaves db may_be) in
    let first = found_begun s.conn files left begun gives clean may holds station made.was (made.opened opened.honest) (made.found opened.honest) in
    let ours = ∥∥₁_elim first (ours_prop again.alone again.was again.found) (λ db. found_ours begun again opened s.layout i (still_of_station s.layout i db.0 trees0 db.2 (leaves db.0 db.1))) in
    let taken = opened.rows ours in
    let trees = (file_state taken.was).now.trees in
    let found = found_begun s.conn files left begun gives clean may holds station taken.was taken.opened taken.found in (
      ours,
      ∥∥₁_elim found (Coded-set layout_code.the_row.coded _ _) (λ db. now_layout begun again taken s.layout (still_of_station s.layout i db.0 trees db.2 (leaves db.0 db.1)).tables),
      ∥∥₁_elim found (Coded-set identity.the_row.coded _ _) (λ db. let all = still_of_station s.layout i db.0 trees db.2 (leaves db.0 db.1) in taken_station begun again taken s.layout all.tables i all.holds.station),
      ∥∥₁_map found (λ db.
          let all = still_of_station s.layout i db.0 trees db.2 (leaves db.0 db.1) in
          (db.0, db.1, same_rows (saved_of over_files again) (saved_in s.layout trees) (taken_rows begun again taken s.layout all.tables) ∙ still_rows s.layout db.0 trees db.2)),
    )

pub begun_at_rest : {D : Type 0} {g : Ghosts D} {E : Type 0} {h : Ghosts E} → BegunAtRestLosesNothing D g E h
begun_at_rest {h = h} s files left begun again rests gives clean may holds opened =
    let all = opens_begun s s.identity files left begun again rests.station gives clean may holds opened in
    (all.0, all.2, ap version_in all.1, λ n. ∥∥₁_elim all.3 (Coded-set row.the_row.coded _ _) (λ rows. rests.rows (saved_of over_files again) rows n))

still_all : (before : Layout) (i : Identity) (saved : Saved) (db now : Trees) → SameTables db now → HoldsAll before i saved db → HoldsAll before i saved now
still_all before i saved db now same all = record {
  layout = all.layout;
  either = all.either;
  station = still_of_station all.layout i db now same all.station;
  same = λ n. ap (λ (rows : Saved). rows n) (still_rows all.layout db now same) ∙ all.same n;
}

pub upgrade_begun : {D : Type 0} {g : Ghosts D} {E : Type 0} {h : Ghosts E} → UpgradeOutlivesBegun D g E h
upgrade_begun {h = h} old new files left begun again leaves gives clean may holds opened =
    let made = opened.made in
    let trees0 = (file_state made.was).now.trees in
    let station : (db : Trees) → (file_state new.conn).may_leave db → (layout : Layout) × (j : Identity) × IsOfStation layout j db = λ db may_be. let all = leaves db may_be in (all.layout, old.identity, all.station) in
    let first = found_begun new.conn files left begun gives clean may holds station made.was (made.opened opened.honest) (made.found opened.honest) in
    let ours = ∥∥₁_elim first (ours_prop again.alone again.was again.found) (λ db. let all = still_all _ _ _ db.0 trees0 db.2 (leaves db.0 db.1) in found_ours begun again opened all.layout old.identity all.station) in
    let taken = opened.rows ours in
    let trees = (file_state taken.was).now.trees in
    let found = found_begun new.conn files left begun gives clean may holds station taken.was taken.opened taken.found in (
      ours,
      ∥∥₁_elim found (Coded-set identity.the_row.coded _ _) (λ db. let all = still_all _ _ _ db.0 trees db.2 (leaves db.0 db.1) in taken_station begun again taken all.layout all.station.tables old.identity all.station.holds.station),
      record {
        torn = (
          refl,
          told_apart (rows_version again) (rows_version old) (∥∥₁_map found (λ db.
              let all = still_all _ _ _ db.0 trees db.2 (leaves db.0 db.1) in
              version_after old.layout again.layout (subst (λ l. (l ≡ old.layout) ⊎ (l ≡ upgraded_from old.layout)) (sym (now_layout begun again taken all.layout all.station.tables)) all.either))),
        );
        same = λ n. ∥∥₁_elim found (Coded-set row.the_row.coded _ _) (λ db. let all = still_all _ _ _ db.0 trees db.2 (leaves db.0 db.1) in taken_rows begun again taken all.layout all.station.tables n ∙ all.same n);
      },
    )

pub group_begun : {D : Type 0} {g : Ghosts D} {E : Type 0} {h : Ghosts E} → GroupOutlivesBegun D g E h
group_begun old new items files left begun again station either gives clean may holds opened =
    let all = opens_begun new old.identity files left begun again station gives clean may holds opened in
    (all.0, all.1, all.2, ∥∥₁_map all.3 (λ rows. either (saved_of over_files again) rows))
