-- What an open finds is what the crash left.
use Rattle.std.proofs.Common.{◌≡◌, ◌==◌, ◌⊎◌, if◌then◌else◌, ℕ, Bool, true, false, true≢false, is_some, Option, Some, None, inl, inr, refl, sym, ap, subst, ◌∙◌}
use Rattle.std.proofs.Math.Logic.{∥∥₁_elim, ∥∥₁_map}
use Rattle.std.proofs.lemmas.Bool.{cases_Bool}
use Rattle.std.proofs.lemmas.Bool.Decides.{Decides-eqb}
use Rattle.std.specs.Coded.{Coded-set, coded_bool, ×_prop, Unit-prop}
use Rattle.sqlite_disk.specs.declared.Disk.{Ghosts}
use Rattle.sqlite_disk.specs.declared.Files.{Files}
use Rattle.sqlite.specs.WalReads.{AreClean}
use Rattle.sqlite.specs.WalFiles.{outcomes}
use Rattle.sqlite.specs.Recovery.{Image}
use Rattle.sqlite_trees.specs.Objects.{catalog_tree}
use Rattle.sqlite_catalog.specs.Listing.{Lists as ListsTables}
use Rattle.sqlite.specs.declared.FileStore.{FileStore}
use Rattle.sqlite.specs.Effect.{Database}
use Rattle.sqlite.specs.Held.{Held}
use Rattle.sqlite.specs.Files.{file_state, over_files, IsOpened}
use Rattle.sqlite.specs.Start.{FindsIn}
use Rattle.sqlite_schema.specs.declared.schema.Schema.{Schema}
use Rattle.sqlite_schema.specs.contracts.schema.Schema as schema
use Rattle.rows_table.specs.declared.layout.Layout.{Layout}
use Rattle.rows_table.specs.Tables.{layout_schema}
use Rattle.rows_table.specs.declared.layout.Layout.TheVariants as layouts
use Rattle.rows_table.specs.contracts.layout.Layout as layout_code
use Rattle.rows_table.specs.Station.{HoldsNone}
use Rattle.protocol.specs.Rows.{Row}
use Rattle.ballots.specs.contracts.row.Row as row
use Rattle.rows_saved.specs.contracts.identity.Identity as identity
use Rattle.rows_saved.specs.Saved.{Saved, IsEither}
use Rattle.rows_saved.specs.declared.identity.Identity.{Identity}
use Rattle.protocol.specs.Versions.{Version, One, Two}
use Rattle.acceptor_store.specs.Layouts.{upgraded_from}
use Rattle.acceptor_store.specs.Columns.{version_in, saved_in}
use Rattle.acceptor_store.specs.StationRow.{IsStationOf}
use Rattle.acceptor_store.specs.Sqlite.{SqliteOf, rows_version, IsOurs, IsOfStation, saved_of}
use Rattle.acceptor_store.specs.Files.{IsOpenedAgain}
use Rattle.acceptor_store.specs.Restarts.{GivesUp, AreOpenedFrom, AreTorn, OpensWhatIsLeft, PutOutlivesCrash, GroupOutlivesCrash, GroupIsFound, UpgradeOutlivesCrash, CreateOutlivesCrash}
use Rattle.acceptor_store.proofs.IdentityLemmas.{added}
use Rattle.acceptor_store.proofs.StandLemmas.{none_saved}
use Rattle.acceptor_store.proofs.TableLemmas.{same_schema, same_layout}

some_same : {A : Type 0} (a b : A) → Some a ≡ Some b → a ≡ b
some_same a b e = cc

pub same_rows : (a b : Saved) → ((n : ℕ) → a n ≡ b n) → a ≡ b
same_rows a b same = λ j n. same n j

pub torn_from : (before : Saved) (number : ℕ) (row : Row) (after : Saved) → IsEither before number row after → AreTorn before number row after
torn_from before number row after (inl same) = record { torn = (refl, inl (same number)); others = λ n _. same n }
torn_from before number row after (inr new) = record {
  torn = (refl, inr (new number ∙ ap (λ b. if b then row else before number) ((Decides-eqb number number).1 refl)));
  others = λ n other. new n ∙ elim (cases_Bool (n == number)) [
    | inl same ↦ absurd (other ((Decides-eqb n number).0 same))
    | inr apart ↦ ap (λ b. if b then row else before n) apart
  ];
}

-- what the store owes is no more than a fact
pub ours_prop : (alone : Bool) (was : Layout) (found : Option Schema) (x y : IsOurs alone was found) → x ≡ y
ours_prop alone was None = ×_prop (Coded-set coded_bool _ _) Unit-prop
ours_prop alone was (Some it) = ×_prop (Coded-set coded_bool _ _) (Coded-set schema.the_row.coded _ _)

-- the version is one of two, which can be told
pub told_apart : (now was : Version) → ∥ (now ≡ was) ⊎ (now ≡ Two) ∥₁ → (now ≡ was) ⊎ (now ≡ Two)
told_apart One One h = inl refl
told_apart Two was h = inr refl
told_apart One Two h = inl (∥∥₁_elim h (λ x y. absurd (differ x)) (λ either. elim either [ inl e ↦ e | inr e ↦ e ]))
  where
    differ : ¬ (One ≡ Two)
    differ e = absurd cc

pub version_after : (before layout : Layout) → (layout ≡ before) ⊎ (layout ≡ upgraded_from before) → (version_in layout ≡ version_in before) ⊎ (version_in layout ≡ Two)
version_after before layout (inl same) = inl (ap version_in same)
version_after layouts.One layout (inr over) = inr (ap version_in over)
version_after (layouts.Two origin) layout (inr over) = inr (ap version_in over)

module _ {D : Type 0} {g : Ghosts D} {E : Type 0} {h : Ghosts E} (conn : Held (FileStore D g)) (files : Files D) (left : Image) (gives : GivesUp g conn files) (clean : AreClean g files.log files.db) (may : outcomes g files.log files.db left) where
  -- an open found a database that the crash could leave
  pub found_left : (was : Held (FileStore E h)) → IsOpened was → FindsIn left (file_state was) → ∥ (file_state conn).may_leave (file_state was).now.trees ∥₁
  found_left was opened found =
      ∥∥₁_map (gives clean left may) (λ db. subst (file_state conn).may_leave (sym (ap (λ (d : Database). d.trees) opened.0.clean ∙ found.holds db.0 db.2)) db.1)

-- what an open lists is the tables of the layout that the trees list
found_schema : {E : Type 0} {h : Ghosts E} (was : Held (FileStore E h)) → IsOpened was → (layout : Layout) → ListsTables ((file_state was).now.trees catalog_tree) (layout_schema layout) → (file_state was).now.schema ≡ layout_schema layout
found_schema was opened layout tables = same_schema layout ((file_state was).now.trees catalog_tree) (file_state was).now.schema tables (opened.1 opened.0.is_open).0.lists

-- rows that were opened from a database of a station have its tables as their own
pub found_ours : {E : Type 0} {h : Ghosts E} (left : Image) (again : SqliteOf (FileStore E h)) (opened : AreOpenedFrom left again) (layout : Layout) (i : Identity)
    → IsOfStation layout i (file_state opened.made.was).now.trees → IsOurs again.alone again.was again.found
found_ours left again opened layout i holds =
    let made = opened.made in
    let was = made.opened opened.honest in
    (made.ours layout (found_schema made.was was layout holds.tables)).1

-- rows that were taken up from trees which list the tables of a layout are in it, and are what it has there
module _ {E : Type 0} {h : Ghosts E} (left : Image) (again : SqliteOf (FileStore E h)) (taken : IsOpenedAgain left again) (layout : Layout)
    (tables : ListsTables ((file_state taken.was).now.trees catalog_tree) (layout_schema layout)) where
  taken_layout : again.was ≡ layout
  taken_layout = same_layout again.was layout (sym taken.tables ∙ found_schema taken.was taken.opened layout tables)

  pub now_layout : again.layout ≡ layout
  now_layout = taken.fresh ∙ taken_layout

  pub taken_rows : (n : ℕ) → saved_of over_files again n ≡ saved_in layout (file_state taken.was).now.trees n
  taken_rows n =
      taken.same n
      ∙ ap (λ l. saved_in l (file_state taken.was).now.trees n) taken_layout

  pub taken_station : (i : Identity) → IsStationOf layout i (file_state taken.was).now.trees → again.identity ≡ i
  taken_station i is = ap (λ (s : ℕ × Identity). s.1) (some_same _ _ (sym taken.station ∙ is))

pub opens : {D : Type 0} {g : Ghosts D} {E : Type 0} {h : Ghosts E} → OpensWhatIsLeft D g E h
opens {h = h} s i files left again leaves gives clean may opened =
    let made = opened.made in
    let first = found_left s.conn files left gives clean may made.was (made.opened opened.honest) (made.found opened.honest) in
    let ours = ∥∥₁_elim first (ours_prop again.alone again.was again.found) (λ db. found_ours left again opened s.layout i (leaves _ db)) in
    let taken = opened.rows ours in
    let found = found_left s.conn files left gives clean may taken.was taken.opened taken.found in
    let trees = (file_state taken.was).now.trees in (
      ours,
      ∥∥₁_elim found (Coded-set layout_code.the_row.coded _ _) (λ db. now_layout left again taken s.layout (leaves _ db).tables),
      ∥∥₁_elim found (Coded-set identity.the_row.coded _ _) (λ db. taken_station left again taken s.layout (leaves _ db).tables i (leaves _ db).holds.station),
      ∥∥₁_map found (λ db. (trees, db, same_rows (saved_of over_files again) (saved_in s.layout trees) (taken_rows left again taken s.layout (leaves _ db).tables))),
    )

pub put_outlives : {D : Type 0} {g : Ghosts D} {E : Type 0} {h : Ghosts E} → PutOutlivesCrash D g E h
put_outlives old new number row files left again station either gives clean may opened =
    let all = opens new old.identity files left again station gives clean may opened in
    (all.0, all.1, all.2, ∥∥₁_map all.3 (λ rows. torn_from (saved_of over_files old) number row (saved_of over_files again) (either (saved_of over_files again) rows)))

pub group_outlives : {D : Type 0} {g : Ghosts D} {E : Type 0} {h : Ghosts E} → GroupOutlivesCrash D g E h
group_outlives old new items files left again station either gives clean may opened =
    let all = opens new old.identity files left again station gives clean may opened in
    (all.0, all.1, all.2, ∥∥₁_map all.3 (λ rows. either (saved_of over_files again) rows))

pub group_found : {D : Type 0} {g : Ghosts D} {E : Type 0} {h : Ghosts E} → GroupIsFound D g E h
group_found old new items files left again station all_there gives clean may opened =
    let all = opens new old.identity files left again station gives clean may opened in
    (all.0, all.1, all.2, ∥∥₁_map all.3 (λ rows. all_there (saved_of over_files again) rows))

pub upgrade_outlives : {D : Type 0} {g : Ghosts D} {E : Type 0} {h : Ghosts E} → UpgradeOutlivesCrash D g E h
upgrade_outlives {h = h} old new files left again leaves gives clean may opened =
    let made = opened.made in
    let first = found_left new.conn files left gives clean may made.was (made.opened opened.honest) (made.found opened.honest) in
    let ours = ∥∥₁_elim first (ours_prop again.alone again.was again.found) (λ db. let all = leaves _ db in found_ours left again opened all.layout old.identity all.station) in
    let taken = opened.rows ours in
    let found = found_left new.conn files left gives clean may taken.was taken.opened taken.found in (
      ours,
      ∥∥₁_elim found (Coded-set identity.the_row.coded _ _) (λ db. let all = leaves _ db in taken_station left again taken all.layout all.station.tables old.identity all.station.holds.station),
      record {
        torn = (
          refl,
          told_apart (rows_version again) (rows_version old) (∥∥₁_map found (λ db.
              let all = leaves _ db in
              version_after old.layout again.layout (subst (λ l. (l ≡ old.layout) ⊎ (l ≡ upgraded_from old.layout)) (sym (now_layout left again taken all.layout all.station.tables)) all.either))),
        );
        same = λ n. ∥∥₁_elim found (Coded-set row.the_row.coded _ _) (λ db. let all = leaves _ db in taken_rows left again taken all.layout all.station.tables n ∙ all.same n);
      },
    )

pub create_outlives : {D : Type 0} {g : Ghosts D} {E : Type 0} {h : Ghosts E} → CreateOutlivesCrash D g E h
create_outlives {h = h} old new layout i files left again is small none leaves gives clean may taken =
    let found = found_left new files left gives clean may taken.was taken.opened taken.found in
    let trees = (file_state taken.was).now.trees in
    let made : (db : (file_state new).may_leave trees) → HoldsNone layout i.circuit i.member i.members trees = λ db. elim (leaves trees db) [
      | inl before ↦ absurd (true≢false (sym (ap is_some (sym (none trees before) ∙ taken.station))))
      | inr holds ↦ holds
    ] in (
      ∥∥₁_elim found (Coded-set identity.the_row.coded _ _) (λ db. taken_station left again taken layout (made db).tables i (added layout i trees is small (made db))),
      λ n. ∥∥₁_elim found (Coded-set row.the_row.coded _ _) (λ db. taken_rows left again taken layout (made db).tables n ∙ none_saved layout i.circuit i.member i.members trees (made db) n),
    )
