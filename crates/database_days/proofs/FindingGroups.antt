-- What the next start finds of a group is what it found before it, or all of it.
use Rattle.std.proofs.Common.{◌≡◌, ◌⊎◌, ◌==◌, ℕ, List, [], ◌∷◌, inl, inr, refl, sym, ap, ◌∙◌}
use Rattle.std.proofs.Math.Logic.{∥∥₁_elim, ∥∥₁_map}
use Rattle.std.proofs.lemmas.Bool.{cases_Bool}
use Rattle.std.proofs.lemmas.Bool.Decides.{Decides-eqb}
use Rattle.std.specs.List.{AllByRecursion}
use Rattle.sqlite_disk.specs.declared.Disk as disk
use Rattle.sqlite_disk.specs.declared.Files.{Files}
use Rattle.sqlite.specs.declared.FileStore.{FileStore}
use Rattle.sqlite.specs.Files.{over_files}
use Rattle.protocol.specs.Rows.{Row}
use Rattle.rows_saved.specs.Saved.{Saved, with_row}
use Rattle.rows_saved.specs.Groups.{IsAllOrNone, with_all}
use Rattle.rows_saved.specs.Grouped.{GroupedOf}
use Rattle.acceptor_store.specs.Columns.{version_in}
use Rattle.station.specs.declared.station.Station.{Station}
use Rattle.station.specs.Stations.{Sight}
use Rattle.acceptor_store.specs.Sqlite.{SqliteOf, LeavesNoOther, rows_version, saved_of}
use Rattle.acceptor_store.specs.Restarts.{GivesUp}
use Rattle.acceptor_store.specs.Begun.{BegunAtRestLosesNothing, GroupOutlivesBegun, UpgradeOutlivesBegun}
use Rattle.database_days.specs.Grouping.{GroupsHandOver, IsSettled}
use Rattle.database_days.proofs.Deciding.{rows}
use Rattle.database_days.proofs.Finding.{is_set, put_elsewhere}
use Rattle.database_days.proofs.Holding.{holds_all}

module _ (old now : Saved) where
  -- these numbers have the rows that they had
  abbrev AreAsTheyWere : List (ℕ × Row) → Type 0
  AreAsTheyWere items = AllByRecursion (λ p. now p.0 ≡ old p.0) items

  -- they all have, or one does not
  told_all : (items : List (ℕ × Row)) → AreAsTheyWere items ⊎ ((k : ℕ) × ¬ (now k ≡ old k))
  told_all [] = inl tt
  told_all (p ∷ ps) = elim (rows (now p.0) (old p.0)) [
    | inl here ↦ elim (told_all ps) [ inl rest ↦ inl (here, rest) | inr other ↦ inr other ]
    | inr other ↦ inr (p.0, other)
  ]

  -- a number is none of theirs, or has the row that it had
  none_or_as_it_was : (items : List (ℕ × Row)) (saved : Saved) (n : ℕ) → AreAsTheyWere items → (with_all saved items n ≡ saved n) ⊎ (now n ≡ old n)
  none_or_as_it_was [] saved n all = inl refl
  none_or_as_it_was (p ∷ ps) saved n all = elim (cases_Bool (n == p.0)) [
    | inl here ↦ (let at : n ≡ p.0 = (Decides-eqb n p.0).0 here in inr (ap now at ∙ all.0 ∙ ap old (sym at)))
    | inr apart ↦ elim (none_or_as_it_was ps (with_row saved p.0 p.1) n all.1) [
      | inl same ↦ inl (same ∙ put_elsewhere saved p.0 n p.1 apart)
      | inr same ↦ inr same
    ]
  ]

  -- which of the two it was can be told
  told_all_or_none : (items : List (ℕ × Row)) → ∥ IsAllOrNone old items now ∥₁ → IsAllOrNone old items now
  told_all_or_none items it = elim (told_all items) [
    | inl same ↦ inl (λ n. ∥∥₁_elim it (is_set (now n) (old n)) (λ either. elim either [
      | inl none ↦ none n
      | inr all ↦ elim (none_or_as_it_was items old n same) [ inl untouched ↦ all n ∙ untouched | inr kept ↦ kept ]
    ]))
    | inr other ↦ inr (λ n. ∥∥₁_elim it (is_set (now n) (with_all old items n)) (λ either. elim either [
      | inl none ↦ absurd (other.1 (none other.0))
      | inr all ↦ all n
    ]))
  ]

module _ {D : Type 0} {g : disk.Ghosts D} {R : Type 0} (inside : R → SqliteOf (FileStore D g)) (x : Sight (GroupedOf R))
    (saved : (s : GroupedOf R) → x.saved s ≡ with_all (saved_of over_files (inside s.rows)) s.waits)
    (version : (s : GroupedOf R) → x.version s ≡ rows_version (inside s.rows)) where
  -- a settled station has the rows inside
  settled_rows : (last : Station (GroupedOf R)) (n : ℕ) → IsSettled inside last → x.saved last.rows n ≡ saved_of over_files (inside last.rows.rows) n
  settled_rows last n s = ap (λ (m : Saved). m n) (saved last.rows) ∙ ap (λ w. with_all (saved_of over_files (inside last.rows.rows)) w n) s.settled

  -- files of rows that were at most read since hold what a crash could leave of the rows before
  given_up_before : (last : Station (GroupedOf R)) (now : SqliteOf (FileStore D g)) (files : Files D) → IsSettled inside last
      → LeavesNoOther over_files (inside last.rows.rows) now → GivesUp g now.conn files → GivesUp g (inside last.rows.rows).conn files
  given_up_before last now files s leaves gives clean left may = ∥∥₁_map (gives clean left may) (λ db. (db.0, leaves s.rest.is_open db.0 db.1, db.2))

  pub groups_found : {E : Type 0} {h : disk.Ghosts E} → BegunAtRestLosesNothing D g E h → GroupOutlivesBegun D g E h → UpgradeOutlivesBegun D g E h → GroupsHandOver D g E h inside x
  groups_found rests outlives upgrades = record {
    before_the_save = λ before now files left begun again s leaves gives clean may stands opened.
        let all = rests (inside before.rows.rows) files left begun again s.rest (given_up_before before now files s leaves gives) clean may (holds_all left begun stands) opened in
        (all.0, all.1, ((λ n. all.3 n ∙ sym (settled_rows before n s)), all.2 ∙ sym (version before.rows)));
    in_the_save = λ before after now files left begun again took s gives clean may stands opened.
        let held = inside after.rows.rows in
        let all = outlives held now after.rows.waits files left begun again (s.station took.is_open took.ran) (s.either took.is_open took.ran) gives clean may (holds_all left begun stands) opened in
        let found = told_all_or_none (saved_of over_files held) (saved_of over_files again) after.rows.waits all.3 in
        let at = ap version_in all.1 ∙ s.version in (
          all.0,
          all.2 ∙ took.identity,
          elim found [
            | inl none ↦ inl ((λ n. none n ∙ took.same n ∙ sym (settled_rows before n took.begins)), at ∙ took.version ∙ sym (version before.rows))
            | inr each ↦ inr ((λ n. each n ∙ sym (ap (λ (m : Saved). m n) (saved after.rows))), at ∙ sym (version after.rows))
          ],
        );
    in_an_upgrade = λ before now files left begun again s leaves gives clean may stands opened.
        let all = upgrades (inside before.rows.rows) now files left begun again leaves gives clean may (holds_all left begun stands) opened in (
          all.0,
          all.1,
          (
            λ n. all.2.same n ∙ sym (settled_rows before n s),
            elim all.2.torn.1 [ inl was ↦ inl (was ∙ sym (version before.rows)) | inr two ↦ inr two ],
          ),
        );
  }
