-- What a statement that replaces a row leaves of a connection, and what a query leaves of it.
use Rattle.std.proofs.Common.{◌≡◌, ◌⊎◌, inl, inr, ℕ, ◌≤◌, List, ◌∷◌, Ok, Err, Result, OnOk, OnErr, IfOk, IfErr, IsTrue, sym, ap, subst, ◌∙◌, arith}
use Rattle.sqlite_value.specs.Order.{Row}
use Rattle.sqlite_trees.specs.Tree.{Trees}
use Rattle.sqlite_trees.specs.View.{doubt}
use Rattle.sqlite.specs.Effect.{Database}
use Rattle.sqlite.specs.declared.error.Error.{Error}
use Rattle.sqlite.specs.State.{State, HasCleanDisk, Executes, CommitsBy, CommitsShowing, Shown, FailsToQuery, Survives, IsUnchanged, IsRolledBack}
use Rattle.sqlite.specs.Listing.{understood}
use Rattle.sqlite.proofs.Callers.{IsPlain, never_commits}
use Rattle.rows_table.specs.Tables.{Layout, layout_tree, layout_schema}
use Rattle.rows_table.specs.Rows.{AreRows, whole, SavesIn, Serves, IsAtRest, WasSaved, WasKept}
use Rattle.rows_table.specs.Cursor.{OnlyReads, WritesNothing}
use Rattle.rows_table.proofs.PutLemmas.{Replaces, puts, commits}
use Rattle.rows_table.proofs.StateLemmas.{executes_open, refused_leaves, shown_open, shown_same, query_leaves}

-- while it is open, a crash leaves the last commit
abbrev pub IsSettled : State → Type 0
IsSettled s = (db : Trees) → IsTrue s.is_open → s.may_leave db → db ≡ s.committed.trees

-- a connection that was at rest
pub was_early : (old new : State) → doubt old.is_clean ≤ doubt new.is_clean → HasCleanDisk new → HasCleanDisk old
was_early old new falls clean = omega (arith, falls, clean)

pub serves_unchanged : (layout : Layout) (old new : State) → doubt old.is_clean ≤ doubt new.is_clean → Serves layout old → IsUnchanged old new → Serves layout new
serves_unchanged layout old new falls serves same clean =
    let was = serves (was_early old new falls clean) in (
      same.0.mode ∙ was.0,
      λ opened. let rest = was.1 same.0.was_open in record {
        schema = ap (λ (d : Database). d.schema) same.0.now_is ∙ rest.schema;
        rows = subst (λ (d : Database). AreRows (d.trees (layout_tree layout))) (sym same.0.now_is) rest.rows;
        settled = same.0.committed_is ∙ rest.settled ∙ sym same.0.now_is;
      },
    )

pub kept_unchanged : (old new : State) → IsUnchanged old new → WasKept old new
kept_unchanged old new same = record { was_open = same.0.was_open; same = same.0.now_is }

pub kept_undone : (layout : Layout) (old new : State) → IsTrue new.is_open → IsAtRest layout old → IsRolledBack old new → WasKept old new
kept_undone layout old new opened rest undone = record { was_open = undone.was_open opened; same = (undone.undone opened).0 ∙ rest.settled }

pub serves_undone : (layout : Layout) (old new : State) → doubt old.is_clean ≤ doubt new.is_clean → Serves layout old → IsRolledBack old new → Serves layout new
serves_undone layout old new falls serves undone clean =
    let was = serves (was_early old new falls clean) in (
      undone.autocommit,
      λ opened. let rest = was.1 (undone.was_open opened) in let now = (undone.undone opened).0 ∙ rest.settled in record {
        schema = ap (λ (d : Database). d.schema) now ∙ rest.schema;
        rows = subst (λ (d : Database). AreRows (d.trees (layout_tree layout))) (sym now) rest.rows;
        settled = (undone.undone opened).1 ∙ sym (undone.undone opened).0;
      },
    )

module _ (layout : Layout) (sql : List ℕ) (n : ℕ) (row : Row) (it : Replaces layout sql n row) (old new : State) (serves : Serves layout old) (law_old : IsSettled old) (law_new : IsSettled new)
    (r : Result ℕ Error) (runs : HasCleanDisk new → Executes sql (whole n ∷ row) old new r) (survives : Survives old new (CommitsBy sql (whole n ∷ row) old)) where
  early : HasCleanDisk new → HasCleanDisk old
  early = was_early old new survives.clean

  saved_ok : (r : Result ℕ Error) → HasCleanDisk new → Executes sql (whole n ∷ row) old new r → OnOk r (WasSaved layout n row old new × Serves layout new)
  saved_ok (Err e) clean h = tt
  saved_ok (Ok count) clean h =
      let was = serves (early clean) in
      let was_open = executes_open sql (whole n ∷ row) old new count was.0 h in
      let rest = was.1 was_open in
      let done = puts layout sql n row it old rest.schema rest.rows new (Ok count) was.0 h in (
        record { was_open = was_open; is_open = done.2; saved = done.0; crash = λ db left. law_new db done.2 left ∙ ap (λ (d : Database). d.trees) done.1 },
        λ _. (done.3, λ _. record { schema = done.0.schema ∙ rest.schema; rows = done.0.trees.rows.rows; settled = done.1 }),
      )

  kept_err : (r : Result ℕ Error) → HasCleanDisk new → Executes sql (whole n ∷ row) old new r → OnErr r ((IsTrue new.is_open → WasKept old new) × Serves layout new)
  kept_err (Ok count) clean h = tt
  kept_err (Err e) clean h = elim (refused_leaves sql (whole n ∷ row) old new e h) [
    | inl same ↦ ((λ opened. kept_unchanged old new same), serves_unchanged layout old new survives.clean serves same)
    | inr undone ↦ ((λ opened. kept_undone layout old new opened ((serves (early clean)).1 (undone.was_open opened)) undone), serves_undone layout old new survives.clean serves undone)
  ]

  both : (r : Result ℕ Error) → OnOk r (WasSaved layout n row old new × Serves layout new) → OnErr r ((IsTrue new.is_open → WasKept old new) × Serves layout new) → Serves layout new
  both (Ok count) a b = a.1
  both (Err e) a b = b.1

  pub serves_on : Serves layout new
  serves_on clean = both r (saved_ok r clean (runs clean)) (kept_err r clean (runs clean)) clean

  first : (r : Result ℕ Error) → OnOk r (WasSaved layout n row old new × Serves layout new) → OnOk r (WasSaved layout n row old new)
  first (Ok count) a = a.0
  first (Err e) a = tt

  second : (r : Result ℕ Error) → OnErr r ((IsTrue new.is_open → WasKept old new) × Serves layout new) → IsTrue new.is_open → OnErr r (WasKept old new)
  second (Ok count) a opened = tt
  second (Err e) a opened = a.0 opened

  pub saved_on : HasCleanDisk new → OnOk r (WasSaved layout n row old new)
  saved_on clean = first r (saved_ok r clean (runs clean))

  pub kept_on : HasCleanDisk new → IsTrue new.is_open → OnErr r (WasKept old new)
  kept_on clean = second r (kept_err r clean (runs clean))

  pub crash_on : HasCleanDisk new → IsTrue old.is_open → (db : Trees) → new.may_leave db → (db ≡ old.now.trees) ⊎ SavesIn layout n row old.now.trees db
  crash_on clean opened db left =
      let was = serves (early clean) in
      let rest = was.1 opened in
      elim (survives.crash clean db left) [
        | inl before ↦ inl (law_old db opened before ∙ ap (λ (d : Database). d.trees) rest.settled)
        | inr by ↦ inr (commits layout sql n row it old rest.schema rest.rows db by)
      ]

-- ---- what reads: what an answer left of a connection, and what an error left

pub reads_in : (layout : Layout) (sql : List ℕ) (old : State) → IsPlain (understood (layout_schema layout) sql) → old.now.schema ≡ layout_schema layout → OnlyReads old sql
reads_in layout sql old plain has opened = subst (λ s. IsPlain (understood s sql)) (sym has) plain

pub reads_open : (layout : Layout) (sql : List ℕ) (old : State) → IsPlain (understood (layout_schema layout) sql) → (IsTrue old.is_open → old.now.schema ≡ layout_schema layout) → OnlyReads old sql
reads_open layout sql old plain has opened = reads_in layout sql old plain (has opened) opened

pub reads_serving : (layout : Layout) (sql : List ℕ) (old : State) → IsPlain (understood (layout_schema layout) sql) → Serves layout old → HasCleanDisk old → OnlyReads old sql
reads_serving layout sql old plain serves clean opened = reads_in layout sql old plain ((serves clean).1 opened).schema opened

module _ {V : Type 0} (layout : Layout) (old new : State) (falls : doubt old.is_clean ≤ doubt new.is_clean) (serves : Serves layout old) (r : Result V Error)
    (same : HasCleanDisk new → OnOk r (IsUnchanged old new)) (err : HasCleanDisk new → OnErr r (WritesNothing old new)) where
  rest_at : HasCleanDisk new → IsTrue old.is_open → IsAtRest layout old
  rest_at clean = (serves (was_early old new falls clean)).1

  serves_after : (r : Result V Error) → OnOk r (IsUnchanged old new) → OnErr r (WritesNothing old new) → Serves layout new
  serves_after (Ok v) kept left = serves_unchanged layout old new falls serves kept
  serves_after (Err e) kept left = elim left [
    | inl unchanged ↦ serves_unchanged layout old new falls serves unchanged
    | inr undone ↦ serves_undone layout old new falls serves undone
  ]

  kept_after : (r : Result V Error) → OnOk r (IsUnchanged old new) → OnErr r (WritesNothing old new) → HasCleanDisk new → IsTrue new.is_open → WasKept old new
  kept_after (Ok v) kept left clean opened = kept_unchanged old new kept
  kept_after (Err e) kept left clean opened = elim left [
    | inl unchanged ↦ kept_unchanged old new unchanged
    | inr undone ↦ kept_undone layout old new opened (rest_at clean (undone.was_open opened)) undone
  ]

  open_after : (r : Result V Error) → OnOk r (IsUnchanged old new) → OnOk r (IsTrue new.is_open)
  open_after (Ok v) kept = kept.0.is_open
  open_after (Err e) kept = tt

  has_after : (r : Result V Error) → OnOk r (IsUnchanged old new) → HasCleanDisk new → OnOk r (old.now.schema ≡ layout_schema layout)
  has_after (Ok v) kept clean = (rest_at clean kept.0.was_open).schema
  has_after (Err e) kept clean = tt

  pub reading_serves : Serves layout new
  reading_serves clean = serves_after r (same clean) (err clean) clean

  pub reading_kept : HasCleanDisk new → IsTrue new.is_open → WasKept old new
  reading_kept clean = kept_after r (same clean) (err clean) clean

  pub reading_open : HasCleanDisk new → OnOk r (IsTrue new.is_open)
  reading_open clean = open_after r (same clean)

  pub reading_has : HasCleanDisk new → OnOk r (old.now.schema ≡ layout_schema layout)
  reading_has clean = has_after r (same clean) clean

-- ---- the same outside a transaction, on any rows

abbrev pub IsStill : State → Type 0
IsStill s = IsTrue s.is_open → s.now ≡ s.committed

module _ (old new : State) (still : IsStill old) where
  rests_unchanged : IsUnchanged old new → WasKept old new × (new.now ≡ new.committed)
  rests_unchanged same = (kept_unchanged old new same, same.0.now_is ∙ still same.0.was_open ∙ sym same.0.committed_is)

  rests_undone : IsTrue new.is_open → IsRolledBack old new → WasKept old new × (new.now ≡ new.committed)
  rests_undone opened undone =
      let was = undone.was_open opened in
      let now = undone.undone opened in
      (record { was_open = was; same = now.0 ∙ sym (still was) }, now.0 ∙ sym now.1)

  pub reading_rests : {V : Type 0} → (r : Result V Error) → OnOk r (IsUnchanged old new) → OnErr r (WritesNothing old new) → IsTrue new.is_open → WasKept old new × (new.now ≡ new.committed)
  reading_rests (Ok v) kept left opened = rests_unchanged kept
  reading_rests (Err e) kept left opened = elim left [ inl unchanged ↦ rests_unchanged unchanged | inr undone ↦ rests_undone opened undone ]

-- ---- a query

refused_query : {V : Type 0} (sql : List ℕ) (params : Row) (old new : State) (r : Result V Error) → IfErr r (FailsToQuery sql params old new) → OnErr r (WritesNothing old new)
refused_query sql params old new (Ok v) fails = tt
refused_query sql params old new (Err e) fails = query_leaves sql params old new e fails

module _ (layout : Layout) (sql : List ℕ) (params : Row) (old new : State) (plain : IsPlain (understood (layout_schema layout) sql)) (serves : Serves layout old) (law_old : IsSettled old)
    (survives : Survives old new (CommitsShowing sql params old)) where
  early_q : HasCleanDisk new → HasCleanDisk old
  early_q = was_early old new survives.clean

  plain_at : IsAtRest layout old → IsPlain (understood old.now.schema sql)
  plain_at rest = subst (λ s. IsPlain (understood s sql)) (sym rest.schema) plain

  pub shows_same : HasCleanDisk new → (rows : List Row) → Shown sql params old new rows → IsAtRest layout old × IsUnchanged old new
  shows_same clean rows h =
      let rest = (serves (early_q clean)).1 (shown_open sql params old new rows h) in
      (rest, shown_same sql params old new rows (plain_at rest) h)

  pub query_crash : HasCleanDisk new → IsTrue old.is_open → (db : Trees) → new.may_leave db → old.may_leave db
  query_crash clean opened db left = elim (survives.crash clean db left) [
    | inl before ↦ before
    | inr by ↦ absurd (never_commits sql params old db (plain_at ((serves (early_q clean)).1 opened)) by)
  ]

  module _ {V : Type 0} (items : V → List Row) (r : Result V Error) (ok : HasCleanDisk new → IfOk r (λ v. Shown sql params old new (items v))) (err : HasCleanDisk new → IfErr r (FailsToQuery sql params old new)) where
    kept_at : (r : Result V Error) → IfOk r (λ v. Shown sql params old new (items v)) → HasCleanDisk new → OnOk r (IsUnchanged old new)
    kept_at (Ok v) h clean = (shows_same clean (items v) h).1
    kept_at (Err x) h clean = tt

    same_q : HasCleanDisk new → OnOk r (IsUnchanged old new)
    same_q clean = kept_at r (ok clean) clean

    err_q : HasCleanDisk new → OnErr r (WritesNothing old new)
    err_q clean = refused_query sql params old new r (err clean)

    pub query_serves : Serves layout new
    query_serves = reading_serves layout old new survives.clean serves r same_q err_q

    pub query_kept : HasCleanDisk new → IsTrue new.is_open → WasKept old new
    query_kept = reading_kept layout old new survives.clean serves r same_q err_q

    pub query_open : HasCleanDisk new → OnOk r (IsTrue new.is_open)
    query_open = reading_open layout old new survives.clean serves r same_q err_q

    answers_at : (P : V → Type 0) → ((v : V) → IsAtRest layout old → Shown sql params old new (items v) → P v) → (r : Result V Error) → IfOk r (λ v. Shown sql params old new (items v)) → HasCleanDisk new → IfOk r P
    answers_at P f (Ok v) h clean = f v (shows_same clean (items v) h).0 h
    answers_at P f (Err x) h clean = tt

    pub query_answers : (P : V → Type 0) → ((v : V) → IsAtRest layout old → Shown sql params old new (items v) → P v) → HasCleanDisk new → IfOk r P
    query_answers P f clean = answers_at P f r (ok clean) clean

-- ---- a query outside a transaction, on any rows

module _ (layout : Layout) {V : Type 0} (items : V → List Row) (sql : List ℕ) (params : Row) (old new : State) (plain : IsPlain (understood (layout_schema layout) sql)) (has : old.now.schema ≡ layout_schema layout) (still : IsStill old) where
  shows_in : (r : Result V Error) → IfOk r (λ v. Shown sql params old new (items v)) → OnOk r (IsUnchanged old new)
  shows_in (Ok v) h = shown_same sql params old new (items v) (subst (λ s. IsPlain (understood s sql)) (sym has) plain) h
  shows_in (Err x) h = tt

  pub query_rests : (r : Result V Error) → IfOk r (λ v. Shown sql params old new (items v)) → IfErr r (FailsToQuery sql params old new) → IsTrue new.is_open → WasKept old new × (new.now ≡ new.committed)
  query_rests r h e = reading_rests old new still r (shows_in r h) (refused_query sql params old new r e)

-- a crash leaves what it might have left before
pub query_left : (layout : Layout) (sql : List ℕ) (params : Row) (old new : State) → IsPlain (understood (layout_schema layout) sql) → old.now.schema ≡ layout_schema layout → Survives old new (CommitsShowing sql params old)
    → HasCleanDisk new → (db : Trees) → new.may_leave db → old.may_leave db
query_left layout sql params old new plain has survives clean db left = elim (survives.crash clean db left) [
  | inl before ↦ before
  | inr by ↦ absurd (never_commits sql params old db (subst (λ s. IsPlain (understood s sql)) (sym has) plain) by)
]
