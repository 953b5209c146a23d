-- Rows that are put one after the other, in one transaction.
use Rattle.std.proofs.Common.{◌≡◌, ◌⊎◌, inl, inr, ◌≤◌, ◌+◌, ℕ, suc, zero, List, [], ◌∷◌, drop, length, Some, Ok, Err, Result, OnOk, OnErr, IsTrue, false, refl, sym, ap, subst, ◌∙◌, arith}
use Rattle.std.specs.Prelude.{slice_get}
use Rattle.std.proofs.lemmas.List.{drop_all, take_all}
use Rattle.sqlite_trees.specs.declared.store.Store.{Ghosts}
use Rattle.sqlite_trees.specs.Tree.{Trees}
use Rattle.sqlite_trees.specs.View.{doubt}
use Rattle.sqlite.specs.Effect.{Database}
use Rattle.sqlite.specs.State.{State, HasCleanDisk, KeepsCommit, Survives}
use Rattle.sqlite.specs.Held.{Held, state}
use Rattle.rows_table.specs.declared.layout.Layout.{Layout}
use Rattle.rows_table.specs.Tables.{layout_tree}
use Rattle.rows_table.specs.Rows.{AreRows, Serves, IsAtRest, WasKept}
use Rattle.rows_table.specs.Staging.{IsStaging}
use Rattle.sqlite.specs.declared.transaction.Transaction.{Transaction}
use Rattle.rows_table.specs.declared.layout.LayoutOrigin.{LayoutOrigin}
use Rattle.rows_table.specs.declared.layout.Layout.TheVariants.{Two}
use Rattle.rows_table.specs.Keeping.{WasOpenWhereRefused, RolledBackWhereRefused}
use Rattle.rows_table.proofs.AddingLemmas.{survives_both, kept_then}
use Rattle.protocol.specs.Rows.{Row}
use Rattle.rows_saved.specs.Saved.{Saved, with_row}
use Rattle.rows_saved.specs.declared.identity.Identity.{Identity}
use Rattle.rows_saved.specs.declared.fault.RowsFault.{RowsFault}
use Rattle.rows_saved.specs.Groups.{WithAll, WithSome, IsAllOrNone}
use Rattle.rows_saved.proofs.GroupLemmas.{same_all}
use Rattle.acceptor_store.specs.Columns.{saved_in}
use Rattle.acceptor_store.proofs.SaveLemmas.{saves_row}
use Rattle.acceptor_store.specs.Sqlite.{IsOfStation, Stands}
use Rattle.acceptor_store.specs.Grouping.{PutsBack, PutsEach, StagesBack, StagesRows, StagesEntryBack, HasLayout, WereSaved, CommitsEach, CrashesWithAllOrNone, WasOpenWhereDone, PutsTogether, SavesTogether}
use Rattle.acceptor_store.proofs.StandLemmas.{IsSettled, saved_station, was_clean}

-- from a place on a list has what stands there and then the rest
drop_here : {X : Type 0} (xs : List X) (i : ℕ) (x : X) → slice_get xs i ≡ Some x → drop i xs ≡ x ∷ drop (suc i) xs
drop_here [] i x e = cc
drop_here (y ∷ ys) zero x e = let same : y ≡ x = cc in ap (λ z. z ∷ ys) same
drop_here (y ∷ ys) (suc i) x e = drop_here ys i x e

drop_next : {X : Type 0} (xs : List X) (i : ℕ) (x : X) → slice_get xs i ≡ Some x → drop i xs ≡ x ∷ drop (i + 1) xs
drop_next xs i x e = let next : suc i ≡ i + 1 = omega arith in subst (λ (k : ℕ). drop i xs ≡ x ∷ drop k xs) next (drop_here xs i x e)

-- ---- in a transaction

-- so many of these were put, and what puts the rest makes the whole of it
pub record Staged (layout : Layout) (items : List (ℕ × Row)) (i : ℕ) (old new : State) : Type 0 where
  pub staged : HasCleanDisk new → IsStaging layout old
      → IsStaging layout new × ((last : Trees) → PutsEach layout (drop i items) new.now.trees last → PutsEach layout items old.now.trees last)
  pub inside : HasCleanDisk new → IsTrue old.in_transaction → IsTrue new.in_transaction
  pub kept : HasCleanDisk new → IsTrue old.in_transaction → KeepsCommit old new
  pub survives : Survives old new (λ _. ⊥)

pub one_staged : (layout : Layout) (items : List (ℕ × Row)) (i : ℕ) (item : ℕ × Row) (old mid new : State) → slice_get items i ≡ Some item → Staged layout items i old mid
    → Survives mid new (λ _. ⊥)
    → (HasCleanDisk new → IsStaging layout mid → IsStaging layout new × PutsBack layout item.0 item.1 mid.now.trees new.now.trees)
    → (HasCleanDisk new → IsTrue mid.in_transaction → IsTrue new.in_transaction)
    → (HasCleanDisk new → IsTrue mid.in_transaction → KeepsCommit mid new)
    → Staged layout items (i + 1) old new
one_staged layout items i item old mid new at h survives puts inside kept = record {
  staged = λ clean is.
      let was = h.staged (early clean) is in
      let now = puts clean was.0 in
      (now.0, λ last rest. was.1 last (subst (λ l. PutsEach layout l mid.now.trees last) (sym (drop_next items i item at)) (new.now.trees, now.1, rest)));
  inside = λ clean i. inside clean (h.inside (early clean) i);
  kept = λ clean i. kept_then old mid new (h.kept (early clean) i) (kept clean (h.inside (early clean) i));
  survives = survives_both old mid new h.survives survives;
}
  where
    early : HasCleanDisk new → HasCleanDisk mid
    early clean = omega (arith, survives.clean, clean)

pub all_staged : (layout : Layout) (items : List (ℕ × Row)) (i : ℕ) (old new : State) → length items ≤ i → Staged layout items i old new → HasCleanDisk new → IsStaging layout old
    → IsStaging layout new × PutsEach layout items old.now.trees new.now.trees
all_staged layout items i old new past h clean is =
    let was = h.staged clean is in
    (was.0, was.1 new.now.trees (subst (λ l. PutsEach layout l new.now.trees new.now.trees) (sym (drop_all i items past)) refl))

on_ok : {A E : Type 0} {P Q : Type 0} → (P → Q) → (r : Result A E) → OnOk r P → OnOk r Q
on_ok f (Ok a) h = f h
on_ok f (Err e) h = tt

-- a row that is put into the table of entries is put into that of a database that came to it so
pub entry_back : {S A : Type 0} (g : Ghosts S) (origin : LayoutOrigin) (number : ℕ) (row : Row) (r : Result A RowsFault) (old new : Transaction S)
    → StagesRows g (StagesEntryBack number row) r old new → StagesRows g (StagesBack (Two origin) number row) r old new
entry_back g origin number row r old new it = record {
  acts = record {
    same_reference = it.acts.same_reference;
    done = λ clean. on_ok (λ h. h origin) r (it.acts.done clean);
    inside = it.acts.inside;
    kept = it.acts.kept;
    survives = it.acts.survives;
  };
  refusal = it.refusal;
}

-- ---- what rows that were put make of a database

pub each_saved : (layout : Layout) (items : List (ℕ × Row)) (old new : Trees) → PutsEach layout items old new → WithAll (saved_in layout old) items (saved_in layout new)
each_saved layout [] old new same n = ap (λ t. saved_in layout t n) same
each_saved layout (p ∷ ps) old new (mid, one, rest) n =
    each_saved layout ps mid new rest n
    ∙ same_all ps (with_row (saved_in layout old) p.0 p.1) (saved_in layout mid) (saves_row layout old mid p.0 p.1 one.promised one.back one.saved) n

pub each_station : (layout : Layout) (i : Identity) (items : List (ℕ × Row)) (old new : Trees) → PutsEach layout items old new → IsOfStation layout i old → IsOfStation layout i new
each_station layout i [] old new same held = subst (IsOfStation layout i) (sym same) held
each_station layout i (p ∷ ps) old new (mid, one, rest) held =
    each_station layout i ps mid new rest (saved_station layout i old mid p.0 p.1 one.promised one.back one.low one.high one.saved held)

-- ---- of a connection that serves

module _ (layout : Layout) (items : List (ℕ × Row)) (old new : State) (falls : doubt old.is_clean ≤ doubt new.is_clean)
    (law_old : IsSettled old) (law_new : IsSettled new) (serves : Serves layout old) (ended : new.in_transaction ≡ false) where
  has : IsAtRest layout old → HasLayout layout old
  has rest = record { schema = rest.schema; rows = rest.rows }

  rests : HasCleanDisk new → IsTrue old.is_open → IsAtRest layout old
  rests clean opened = (serves (was_clean old new falls clean)).1 opened

  saved_ok : {A E : Type 0} (r : Result A E) → CommitsEach layout items r old new → WasOpenWhereDone r old new → HasCleanDisk new → OnOk r (WereSaved layout items old new × Serves layout new)
  saved_ok (Err e) done opened clean = tt
  saved_ok (Ok a) done opened clean =
      let w = done clean (has (rests clean (opened clean))) in (
        record { was_open = opened clean; is_open = w.is_open; puts = w.puts; crash = λ db left. law_new db w.is_open left ∙ ap (λ (d : Database). d.trees) w.settled },
        λ _. (w.alone, λ _. record { schema = w.has.schema; rows = w.has.rows; settled = w.settled }),
      )

  kept_err : {A E : Type 0} (r : Result A E) → WasOpenWhereRefused r old new → RolledBackWhereRefused r old new → HasCleanDisk new → OnErr r ((IsTrue new.is_open → WasKept old new) × Serves layout new)
  kept_err (Ok a) was neither clean = tt
  kept_err (Err e) was neither clean = (
    λ opened. record { was_open = was clean opened; same = (neither clean opened).0 ∙ (rests clean (was clean opened)).settled },
    λ _. (
      ended,
      λ opened.
          let rest = rests clean (was clean opened) in
          let now = (neither clean opened).0 ∙ rest.settled in record {
            schema = ap (λ (d : Database). d.schema) now ∙ rest.schema;
            rows = subst (λ (d : Database). AreRows (d.trees (layout_tree layout))) (sym now) rest.rows;
            settled = (neither clean opened).1 ∙ sym (neither clean opened).0;
          },
    ),
  )

  both : {A E : Type 0} (r : Result A E) → OnOk r (WereSaved layout items old new × Serves layout new) → OnErr r ((IsTrue new.is_open → WasKept old new) × Serves layout new) → Serves layout new
  both (Ok a) done kept = done.1
  both (Err e) done kept = kept.1

  pub serves_each : {A E : Type 0} (r : Result A E) → CommitsEach layout items r old new → WasOpenWhereDone r old new → WasOpenWhereRefused r old new → RolledBackWhereRefused r old new → Serves layout new
  serves_each r done opened was neither clean = both r (saved_ok r done opened clean) (kept_err r was neither clean) clean

  first : {A E : Type 0} (r : Result A E) → OnOk r (WereSaved layout items old new × Serves layout new) → OnOk r (WereSaved layout items old new)
  first (Ok a) done = done.0
  first (Err e) done = tt

  second : {A E : Type 0} (r : Result A E) → OnErr r ((IsTrue new.is_open → WasKept old new) × Serves layout new) → IsTrue new.is_open → OnErr r (WasKept old new)
  second (Ok a) kept opened = tt
  second (Err e) kept opened = kept.0 opened

  pub saves_each : {A E : Type 0} (r : Result A E) → CommitsEach layout items r old new → WasOpenWhereDone r old new → HasCleanDisk new → OnOk r (WereSaved layout items old new)
  saves_each r done opened clean = first r (saved_ok r done opened clean)

  pub keeps_each : {A E : Type 0} (r : Result A E) → WasOpenWhereRefused r old new → RolledBackWhereRefused r old new → HasCleanDisk new → IsTrue new.is_open → OnErr r (WasKept old new)
  keeps_each r was neither clean = second r (kept_err r was neither clean)

  pub leaves_each : CrashesWithAllOrNone layout items old new → HasCleanDisk new → IsTrue old.is_open → (db : Trees) → new.may_leave db → (db ≡ old.now.trees) ⊎ PutsEach layout items old.now.trees db
  leaves_each crash clean opened db left =
      let rest = rests clean opened in
      elim (crash clean (has rest) db left) [
        | inl before ↦ inl (law_old db opened before ∙ ap (λ (d : Database). d.trees) rest.settled)
        | inr puts ↦ inr puts
      ]

-- rows that were put together by a connection that serves were saved together
pub saved_together : {A : Type 0} {layout : Layout} {items : List (ℕ × Row)} {r : Result A RowsFault} {old new : State} → IsSettled old → IsSettled new
    → PutsTogether layout items r old new → SavesTogether layout items r old new
saved_together {layout = layout} {items = items} {r = r} {old = old} {new = new} law_old law_new puts = record {
  serves = λ serves. serves_each layout items old new puts.ends.clean law_old law_new serves puts.ended r puts.committed puts.opened puts.ends.was_open puts.ends.neither;
  saved = λ serves. saves_each layout items old new puts.ends.clean law_old law_new serves puts.ended r puts.committed puts.opened;
  err = λ serves. keeps_each layout items old new puts.ends.clean law_old law_new serves puts.ended r puts.ends.was_open puts.ends.neither;
  crash = λ serves. leaves_each layout items old new puts.ends.clean law_old law_new serves puts.ended puts.crash;
  clean = puts.ends.clean;
  refusal = puts.refusal;
}

-- ---- what is left where these were to be put

pub left_all_or_none : (layout : Layout) (items : List (ℕ × Row)) (old left : Trees) → (left ≡ old) ⊎ PutsEach layout items old left → IsAllOrNone (saved_in layout old) items (saved_in layout left)
left_all_or_none layout items old left (inl same) = inl (λ n. ap (λ t. saved_in layout t n) same)
left_all_or_none layout items old left (inr puts) = inr (each_saved layout items old left puts)

pub left_of_station : (layout : Layout) (i : Identity) (items : List (ℕ × Row)) (old left : Trees) → IsOfStation layout i old → (left ≡ old) ⊎ PutsEach layout items old left → IsOfStation layout i left
left_of_station layout i items old left held (inl same) = subst (IsOfStation layout i) (sym same) held
left_of_station layout i items old left held (inr puts) = each_station layout i items old left puts held

-- a connection stands on its tables after they were saved
pub stands_each : {S : Type 0} (g : Ghosts S) (old new : Held S) → doubt (state g old).is_clean ≤ doubt (state g new).is_clean → (layout : Layout) (i : Identity) (items : List (ℕ × Row))
    → Stands g layout old i → (Serves layout (state g old) → Serves layout (state g new))
    → (Serves layout (state g old) → HasCleanDisk (state g new) → WereSaved layout items (state g old) (state g new)) → Stands g layout new i
stands_each g old new falls layout i items stands serves saved = record {
  serves = serves stands.serves;
  holds = λ clean opened.
      let done = saved stands.serves clean in
      each_station layout i items (state g old).now.trees (state g new).now.trees done.puts (stands.holds (was_clean (state g old) (state g new) falls clean) done.was_open);
}

-- all of them, or none, are some of the first
pub some_left : {Shut : Type 0} (items : List (ℕ × Row)) (old new : Saved) → Shut ⊎ IsAllOrNone old items new → Shut ⊎ WithSome old items new
some_left items old new (inl shut) = inl shut
some_left items old new (inr (inl none)) = inr (record { many = 0; within = omega arith; saved = none })
some_left items old new (inr (inr all)) =
    inr (record { many = length items; within = omega arith; saved = subst (λ l. WithAll old l new) (sym (take_all (length items) items (omega arith))) all })
