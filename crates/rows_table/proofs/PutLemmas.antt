-- What the statement that replaces a row does to the table of a layout.
use Rattle.std.proofs.Common.{subst₂, append-nil, drop, ◌≡◌, ◌⊎◌, inl, inr, ℕ, ℤ, pos, List, [], ◌∷◌, ◌++◌, map, length, Bool, true, false, cond, not, ◌==◌, Some, None, Option, Ok, Err, Result, OnOk, IsTrue, refl, sym, ap, subst, ◌∙◌, true≢false, arith}
use Rattle.std.proofs.lemmas.Bool.Decides.{Decides-eqb}
use Rattle.std.specs.Prelude.{find, filter, slice_get, ◌&&◌, ◌||◌, ◌<◌, ◌/◌, ◌≢◌}
use Rattle.std.specs.List.{AllByRecursion}
use Rattle.std.specs.Ordering.{is_eq}
use Rattle.std.proofs.lemmas.List.{length-map}
use Rattle.sqlite_value.specs.declared.value.Value.{Value}
use Rattle.sqlite_value.specs.declared.value.Value.TheVariants.{Null, Int}
use Rattle.sqlite_value.specs.Order.{Row, column, value_cmp}
use Rattle.sqlite_trees.specs.Tree.{Trees, rowid, put_row, without_rowid}
use Rattle.sqlite_trees.proofs.ListLemmas.{all-filter, all-map, all_weaker}
use Rattle.sqlite_trees.proofs.TreeLemmas.{all-put_row}
use Rattle.sqlite_rules.specs.Lists.{Has}
use Rattle.sqlite_rules.proofs.ListLemmas.{has_kept, all_has}
use Rattle.sqlite_schema.specs.declared.schema.Keys.{Keys}
use Rattle.sqlite_schema.specs.declared.schema.Schema.{Schema}
use Rattle.sqlite_schema.specs.declared.schema.Index.{Index}
use Rattle.sqlite_schema.specs.declared.command.Upsert.{Upsert}
use Rattle.sqlite_schema.specs.declared.command.Conflict.TheVariants.{Abort}
use Rattle.sqlite_rules.specs.declared.error.Refusal.{Refusal}
use Rattle.sqlite_rules.specs.Keys.{AreConflicts, conflicts}
use Rattle.sqlite_rules.specs.Calls.{ids_of}
use Rattle.sqlite_rules.specs.Edit.{Edit, edit_of, left_by, is_taken, are_fresh, put_all, without_all, numbered, with_rowid, taken_by, Applies, IsNoIndex, id_in}
use Rattle.sqlite_rules.specs.Action.{works}
use Rattle.sqlite_rules.specs.Cast.{cast, cast_row}
use Rattle.sqlite.specs.Kind.TheVariants.{Integer}
use Rattle.sqlite.specs.Source.TheVariants.{Values}
use Rattle.sqlite.specs.Command.TheVariants.{InsertOr}
use Rattle.sqlite.specs.Rowids.TheVariants.{Given}
use Rattle.sqlite.specs.Ops.{unary, binary, is_true, from_truth}
use Rattle.sqlite.specs.Table.{Table}
use Rattle.sqlite.specs.Term.{Term, eval_all}
use Rattle.sqlite.specs.Does.{Tally, Does, AtPlace, OnRows}
use Rattle.sqlite.specs.Rows.{Written, Task, Tries, TriesEach, Judged, Upserts, Meets, Puts, Updates, Clears, nothing, rowids_for, count_of, stamped, shown, Counts}
use Rattle.sqlite_value.proofs.KeyLemmas.{first_key-plain}
use Rattle.sqlite.specs.Effect.{Database, value_rows}
use Rattle.sqlite.specs.declared.error.Error.{Error}
use Rattle.sqlite.specs.State.{State, mode_of, Executes, CommitsBy, MayCommit}
use Rattle.sqlite.specs.declared.run.Mode.{Mode}
use Rattle.sqlite.specs.Command.{Command}
use Rattle.sqlite.specs.Listing.{understood}
use Rattle.sqlite.proofs.Callers.{IsPlain, command_of, statement_of, runs_as, one_step}
use Rattle.rows_table.specs.Tables.{Layout, layout_tree, layout_schema}
use Rattle.rows_table.specs.Rows.{whole, stored, IsKeyed, AreOnce, AreRows, found_at, Saves, SavesIn, IsSaved}
use Rattle.rows_table.proofs.KeyLemmas.{has, key_is, find_other, find_new, found_any, find_kept, once_put, once_without}
use Rattle.rows_table.proofs.TextLemmas.{by_key, upsert}
use Rattle.rows_table.proofs.QueryLemmas.{IsShownOf, shows, counts}

-- a part that gave a value did not stop on the way
pub went : {B E R : Type 0} {b : B} {Stops : E → Type 0} → ((stop : E) × Stops stop × (Ok b ≡ Err stop)) ⊎ R → R
went (inl stopped) = absurd (let e = stopped.2 in cc)
went (inr on) = on

pub same_value : {B E : Type 0} {a b : B} → ◌≡◌ {A = Result B E} (Ok a) (Ok b) → a ≡ b
same_value e = cc

either : (b : Bool) (x : Value) → cond b x x ≡ x
either true x = refl
either false x = refl

pub cast_int : (z : ℤ) → cast Integer (Int z) ≡ Int z
unfolding unary
cast_int z = either _ (Int z)

pub cast_null : cast Integer Null ≡ Null
unfolding unary
cast_null = either _ Null

-- what is left of the table, where the new row goes in
record IsLeft (n : ℕ) (columns : Row) (rows left : List Row) : Type 0 where
  keyed : AreRows left
  free : is_taken left (stored n columns) ≡ false
  others : (k : ℕ) → (n == k) ≡ false → find (has k) left ≡ find (has k) rows

saves : (n : ℕ) (columns : Row) (rows left : List Row) → IsLeft n columns rows left → Saves n columns rows (put_row (stored n columns) left)
saves n columns rows left it = record {
  rows = record { keyed = all-put_row IsKeyed (stored n columns) left (n, refl) it.keyed.keyed; once = once_put n columns left it.free it.keyed.once };
  saved = λ k. at k (n == k) refl;
}
  where
    at : (k : ℕ) (b : Bool) → (n == k) ≡ b → found_at (put_row (stored n columns) left) k ≡ cond b (Some (stored n columns)) (found_at rows k)
    at k true e = subst (λ m. found_at (put_row (stored n columns) left) m ≡ Some (stored n columns)) ((Decides-eqb n k).0 e) (find_new n columns left it.free)
    at k false e = find_other n columns k e left ∙ it.others k e

-- the rows with this number go out
without : (n : ℕ) (rows : List Row) (ids : List ℤ) → AllByRecursion (λ id. id ≡ pos n) ids → AreRows rows
    → AreRows (without_all rows ids) × ((k : ℕ) → (n == k) ≡ false → find (has k) (without_all rows ids) ≡ find (has k) rows)
without n rows [] all keyed = (keyed, λ k e. refl)
without n rows (id ∷ ids) all keyed =
    let more = without n (without_rowid id rows) ids all.1 (record { keyed = all-filter IsKeyed _ rows keyed.keyed; once = subst (λ i. AreOnce (without_rowid i rows)) (sym all.0) (once_without n rows keyed.once) }) in
    (more.0, λ k e. more.1 k e ∙ subst (λ i. find (has k) (without_rowid i rows) ≡ find (has k) rows) (sym all.0) (find_kept n k e rows))

-- a row that has its rowid keeps it
numbered_is : (rows news : List Row) → numbered Given rows news ≡ news
numbered_is rows [] = refl
numbered_is rows (r ∷ rs) = ap (λ l. r ∷ l) (numbered_is (put_row r rows) rs)

no_more : (n : ℕ) (columns : Row) (left news : List Row) → AllByRecursion (λ r. r ≡ stored n columns) news → is_taken left (stored n columns) ≡ false
    → are_fresh (put_row (stored n columns) left) news ≡ true → news ≡ []
no_more n columns left [] all free fresh = refl
no_more n columns left (r ∷ rs) all free fresh =
    let taken : is_taken (put_row (stored n columns) left) (stored n columns) ≡ true = found_any (has n) (put_row (stored n columns) left) (stored n columns) (find_new n columns left free) in
    absurd (true≢false (sym fresh ∙ rw (all.0, taken) refl))

first_and : (a b : Bool) → (not a && b) ≡ true → (a ≡ false) × (b ≡ true)
first_and true b e = absurd (true≢false (sym e))
first_and false b e = (refl, e)

-- one row goes in
one_in : (n : ℕ) (columns : Row) (left news : List Row) → AllByRecursion (λ r. r ≡ stored n columns) news → 0 < length news → are_fresh left news ≡ true
    → (is_taken left (stored n columns) ≡ false) × (put_all left news ≡ put_row (stored n columns) left)
one_in n columns left [] all some fresh = absurd (omega arith)
one_in n columns left (r ∷ rs) all some fresh =
    let parts = first_and (is_taken left (stored n columns)) (are_fresh (put_row (stored n columns) left) rs) (rw all.0 at fresh) in
    (parts.0, rw (all.0, no_more n columns left rs all.1 parts.0 parts.1) refl)

some_of : {X : Type 0} (xs : List X) (x : X) → Has xs x → 0 < length xs
some_of [] x h = absurd h
some_of (y ∷ ys) x h = omega arith

-- what the update of a row reads: the parameters, the rowid that it found, and the row that was to go in
abbrev pub beside : Table → ℕ → Row → Row → Row
beside table n columns there = (whole n ∷ columns) ++ rowid there ∷ shown table (stored n columns)

-- in this layout the statement puts this row into its table, in the place of the one that has its number, and writes nothing else
pub record Replaces (layout : Layout) (sql : List ℕ) (n : ℕ) (columns : Row) : Type 0 where
  pub place : ℕ
  pub table : Table
  pub terms : List Term
  pub width : ℕ
  pub spot : ℕ
  pub rewritten : List Term
  pub found : slice_get (layout_schema layout).tables place ≡ Some table
  pub tree : table.tree ≡ layout_tree layout
  pub command : command_of (understood (layout_schema layout) sql) ≡ InsertOr place Abort (Values terms width) (upsert table.tree spot rewritten ∷ [])
  pub plain : IsPlain (understood (layout_schema layout) sql)
  pub bare : (layout_schema layout).indexes ≡ []
  pub childless : (keys : Keys) (olds news : List Row) → works (layout_schema layout) keys 0 table.tree olds news ≡ []
  pub uncounted : table.is_counted ≡ false
  pub given : value_rows (stamped table (whole n ∷ columns)) width (length terms / width) terms ≡ stored n columns ∷ []
  pub key : (there : Row) → column (beside table n columns there) spot ≡ rowid there
  pub read : (there r : Row) → eval_all rewritten (beside table n columns there ∷ r ∷ []) ≡ rowid r ∷ rowid r ∷ Null ∷ columns
  -- the columns take the values as they are
  pub taken : cast_row table (stored n columns) ≡ stored n columns

abbrev pub put_command : {layout : Layout} {sql : List ℕ} {n : ℕ} {columns : Row} → Replaces layout sql n columns → Command
put_command it = InsertOr it.place Abort (Values it.terms it.width) (upsert it.table.tree it.spot it.rewritten ∷ [])

-- the row is saved in this tree, and no other tree changes
pub record SavesAt (tree : ℕ) (n : ℕ) (columns : Row) (old new : Trees) : Type 0 where
  pub rows : Saves n columns (old tree) (new tree)
  pub others : (t : ℕ) → t ≢ tree → new t ≡ old t

saves_in : (layout : Layout) (tree n : ℕ) (columns : Row) (old new : Trees) → tree ≡ layout_tree layout → SavesAt tree n columns old new → SavesIn layout n columns old new
saves_in layout tree n columns old new is saved =
    let here = subst (λ t. SavesAt t n columns old new) is saved in record { rows = here.rows; others = here.others }

-- a table that counts no rowids
with_own : (table : Table) (top : ℤ) (rows : List Row) (n : ℕ) (columns : Row) → table.is_counted ≡ false → with_rowid (rowids_for table top) rows (stored n columns) ≡ stored n columns
with_own table top rows n columns uncounted = rw uncounted refl

not_counted : (task : Task) → task.table.is_counted ≡ false → (db : Trees) (counter : Option Row) (top : ℤ) (next : Trees) → Counts task db counter top (Ok next) → next ≡ db
not_counted task uncounted db counter top next h = same_value (rw uncounted at h)

module _ (layout : Layout) (sql : List ℕ) (n : ℕ) (columns : Row) (it : Replaces layout sql n columns) (limit : Option ℕ) (keys : Keys) (db : Trees) (keyed : AreRows (db it.table.tree)) where
  abbrev schema : Schema
  schema = layout_schema layout

  abbrev table : Table
  table = it.table

  abbrev rows : List Row
  rows = db it.table.tree

  abbrev new_row : Row
  new_row = stored n columns

  abbrev clause : Upsert
  clause = upsert it.table.tree it.spot it.rewritten

  abbrev task : Task
  task = record { limit = limit; keys = keys; schema = schema; table = table; params = whole n ∷ columns }

  -- the trees after one row was tried
  abbrev pub Goes : Trees → Type 0
  Goes = SavesAt it.table.tree n columns db

  unindexed : (t : ℕ) → IsNoIndex schema t
  unindexed t = subst (AllByRecursion (λ (i : Index). i.tree ≢ t)) (sym it.bare) tt

  goes_by : (left : List Row) (edit : Edit) (mid : Trees) (out : Written) → out.trees ≡ mid → Applies schema keys db edit mid → edit.table ≡ table → left_by db edit ≡ left
      → AllByRecursion (λ r. r ≡ new_row) edit.news → 0 < length edit.news → AreRows left → ((k : ℕ) → (n == k) ≡ false → find (has k) left ≡ find (has k) rows) → Goes out.trees
  goes_by left edit mid out trees applied is remains news some kept same =
      let in_ = one_in n columns left edit.news news some (rw remains at applied.fresh) in
      let now : mid it.table.tree ≡ put_row new_row left = subst (λ (t : Table). mid t.tree ≡ put_all (left_by db edit) edit.news) is applied.rows ∙ ap (λ l. put_all l edit.news) remains ∙ in_.1 in
      record {
        rows = subst (Saves n columns rows) (sym now ∙ sym (ap (λ (t : Trees). t it.table.tree) trees)) (saves n columns rows left (record { keyed = kept; free = in_.0; others = same }));
        others = λ t other. ap (λ (d : Trees). d t) trees ∙ applied.others t (λ e. other (e ∙ ap (λ (t : Table). t.tree) is)) (unindexed t);
      }

  put_in : (out : Written) → Puts task new_row db (Ok out) → Goes out.trees
  put_in out h =
      let done = went h in
      let trees : out.trees ≡ done.0 = ap (λ (w : Written). w.trees) (same_value done.2) in
      let edit = edit_of db table [] Given 0 (new_row ∷ []) in
      let applied = one_step schema keys db done.0 edit (it.childless keys (taken_by db edit) edit.news) done.1 in
      let news : edit.news ≡ new_row ∷ [] = numbered_is rows _ ∙ ap (λ r. r ∷ []) it.taken in
      let all : AllByRecursion (λ r. r ≡ new_row) edit.news = subst (AllByRecursion (λ r. r ≡ new_row)) (sym news) (refl, tt) in
      let some : 0 < length edit.news = subst (λ (l : List Row). 0 < length l) (sym news) (omega arith) in
      goes_by rows edit done.0 out trees applied refl refl all some keyed (λ k e. refl)

  -- what the update shows: the number of the row that it writes anew, and that row
  abbrev update_row : Row
  update_row = whole n ∷ new_row

  shown_row : (there out : Row) → IsShownOf n rows it.rewritten (beside it.table n columns there) out → out ≡ update_row
  shown_row there out h = h.3 ∙ it.read there h.0 ∙ ap (λ v. v ∷ v ∷ Null ∷ columns) (key_is h.0 n (all_has IsKeyed rows h.0 keyed.keyed h.1) h.2)

  put_over : (there r0 : Row) → rowid there ≡ whole n → Has rows r0 → has n r0 ≡ true → (out : Written)
      → Updates task (record { lets = []; body = by_key it.table.tree it.spot it.rewritten }) (beside it.table n columns there) db (Ok out) → Goes out.trees
  put_over there r0 is in_ found out h =
      let asked = went h in
      let read = asked.0 in
      let a = asked.1.answer Null in
      let done = went asked.2 in
      let at = it.key there ∙ is in
      let trees : out.trees ≡ done.0 = ap (λ (w : Written). w.trees) (same_value done.2) in
      let edit = edit_of db table (ids_of read) Given 1 read in
      let applied = one_step schema keys db done.0 edit (it.childless keys (taken_by db edit) edit.news) done.1 in
      let each : AllByRecursion (λ r. r ≡ update_row) read =
      all_weaker _ (λ r. r ≡ update_row) (shown_row there) read (shows it.table.tree db (beside it.table n columns there) it.spot n it.rewritten read keyed.keyed at a) in
      let ids : AllByRecursion (λ id. id ≡ pos n) (ids_of read) = all-map _ _ read (all_weaker _ (λ r. id_in (rowid r) ≡ pos n) (λ r e. ap (λ x. id_in (rowid x)) e) read each) in
      let left = without n rows (ids_of read) ids keyed in
      let made : AllByRecursion (λ r. r ≡ new_row) (map (λ r. cast_row table (drop 1 r)) read) =
      all-map _ _ read (all_weaker _ (λ r. cast_row table (drop 1 r) ≡ new_row) (λ r e. ap (λ x. cast_row table (drop 1 x)) e ∙ it.taken) read each) in
      let news : edit.news ≡ map (λ r. cast_row table (drop 1 r)) read = numbered_is (without_all rows (ids_of read)) _ in
      let all : AllByRecursion (λ r. r ≡ new_row) edit.news = subst (AllByRecursion (λ r. r ≡ new_row)) (sym news) made in
      let many : 0 < length read = subst (λ m. 0 < m) (sym (counts it.table.tree db (beside it.table n columns there) it.spot n it.rewritten read keyed.keyed at a)) (some_of (filter (has n) rows) r0 (has_kept (has n) rows r0 in_ found)) in
      let some : 0 < length edit.news = subst (λ (l : List Row). 0 < length l) (sym news) (subst (λ m. 0 < m) (sym (length-map read _)) many) in
      goes_by (without_all rows (ids_of read)) edit done.0 out trees applied refl refl all some left.0 left.1

  truth_is : (b : Bool) → ((true && (is_true (from_truth (Some b)) && true)) || false) ≡ b
  truth_is true = refl
  truth_is false = refl

  conflict_is : (r : Row) → IsKeyed r → conflicts (Some (0 ∷ [])) [] table new_row r ≡ has n r
  unfolding binary
  conflict_is r k = rw (first_key-plain, k.1) (truth_is (is_eq (value_cmp (whole k.0) (whole n))))

  resolved : (out : Written) (found : List Row) → AreConflicts (Some (0 ∷ [])) [] table rows new_row found
      → Meets task (Upserts task Abort new_row db []) new_row db clause found (Ok out) → Goes out.trees
  resolved out [] all (clear, alike, h) = cleared clear h
    where
      cleared : (clear : List Row) → Clears task Abort new_row db clear (Ok out) → Goes out.trees
      cleared [] h = put_in out h
      cleared (x ∷ more) h = put_in out h
  resolved out (there ∷ more) all h =
      let hit = all.sound there (inl refl) in
      let r = hit.0 in
      let keyed_r = all_has IsKeyed rows r keyed.keyed hit.1 in
      let found : has n r ≡ true = sym (conflict_is r keyed_r) ∙ hit.2 in
      let is : rowid there ≡ whole n = ap rowid hit.3 ∙ key_is r n keyed_r found in
      put_over there r is hit.1 found out h

  judged : (out : Written) (verdict : Option Refusal) → Judged task Abort (clause ∷ []) new_row db verdict (Ok out) → Goes out.trees
  judged out None h = resolved out h.0 (subst (λ (all : List Index). AreConflicts (Some (0 ∷ [])) all table rows new_row h.0) it.bare h.1) h.2
  judged out (Some why) h = absurd (let e = h in cc)

  tried : (out : Written) → Tries task Abort (clause ∷ []) new_row db (Ok out) → Goes out.trees
  tried out (inl refused) = absurd (let e = refused.1 in cc)
  tried out (inr h) = judged out h.0 h.2

  pub each : (top : ℤ) (out : Written × ℤ) → TriesEach task Abort (clause ∷ []) (new_row ∷ []) top (nothing db) (Ok out) → Goes out.0.trees
  each top out h =
      let done = went h in
      let trees : out.0.trees ≡ done.0.trees = ap (λ (p : Written × ℤ). p.0.trees) (same_value done.2) in
      let new : with_rowid (rowids_for table top) rows (cast_row table new_row) ≡ new_row = ap (with_rowid (rowids_for table top) rows) it.taken ∙ with_own table top rows n columns it.uncounted in
      subst Goes (sym trees) (tried done.0 (subst (λ r. Tries task Abort (clause ∷ []) r db (Ok done.0)) new done.1))

-- what the command makes of a database
pub does : (layout : Layout) (sql : List ℕ) (n : ℕ) (columns : Row) (it : Replaces layout sql n columns) (limit : Option ℕ) (mode : Mode) (old new : Database) (text : List ℕ) (tally : Tally)
    → old.schema ≡ layout_schema layout → AreRows (old.trees (layout_tree layout)) → Does limit mode (whole n ∷ columns) old text None (put_command it) (Ok (tally, new)) → IsSaved layout n columns old new
does layout sql n columns it limit mode old new text tally has keyed h =
    let params = whole n ∷ columns in
    let schema = layout_schema layout in
    let db = old.trees in
    let task : Table → Task = λ t. record { limit = limit; keys = mode.keys; schema = schema; table = t; params = params } in
    let ran = subst (λ s. Does limit mode params (record old { schema = s }) text None (put_command it) (Ok (tally, new))) has h in
    let done = went (subst (λ (at : Option Table). AtPlace (λ t. OnRows (task t) mode None (put_command it) db) at (Ok (tally, new))) it.found ran) in
    let now = ap (λ (p : Tally × Database). p.1) (same_value (went (went done.2).2).2) in
    let sourced = went done.1 in
    let counter = went sourced.2 in
    let all = went counter.2 in
    let end = went all.2 in
    let trees : done.0.trees ≡ all.0.0.trees = ap (λ (w : Written). w.trees) (same_value end.2) ∙ not_counted (task it.table) it.uncounted all.0.0.trees counter.0 all.0.1 end.0 end.1 in
    let went_in = each layout sql n columns it limit mode.keys db (subst (λ (tree : ℕ). AreRows (db tree)) (sym it.tree) keyed) (count_of counter.0) all.0
    (subst (λ rows. TriesEach (task it.table) Abort (upsert it.table.tree it.spot it.rewritten ∷ []) rows (count_of counter.0) (nothing db) (Ok all.0)) (sourced.1.1 ∙ it.given) all.1) in
    record {
      schema = ap (λ (d : Database). d.schema) now ∙ sym has;
      trees = subst (SavesIn layout n columns db) (sym (ap (λ (d : Database). d.trees) now ∙ trees)) (saves_in layout it.table.tree n columns db all.0.0.trees it.tree went_in);
    }

commits_as : (sql : List ℕ) (params : Row) (old : State) (schema : Schema) → old.now.schema ≡ schema → (command : Command) → command_of (understood schema sql) ≡ command → IsPlain (understood schema sql)
    → (db : Trees) → CommitsBy sql params old db → MayCommit old None command (statement_of sql (understood schema sql)) params db
unfolding CommitsBy
commits_as sql params old schema has command is plain db h =
    let known = sym h.1.is ∙ ap (λ s. understood s sql) has in
    let bare = subst IsPlain (sym known) plain in
    subst₂ (λ k t. MayCommit old None k t params db) (ap command_of known ∙ is) (ap (statement_of sql) known) (rw (bare.0, bare.1, append-nil params) at h.2)

module _ (layout : Layout) (sql : List ℕ) (n : ℕ) (columns : Row) (it : Replaces layout sql n columns) (old : State) (has : old.now.schema ≡ layout_schema layout) (keyed : AreRows (old.now.trees (layout_tree layout))) where
  abbrev text : List ℕ
  text = statement_of sql (understood (layout_schema layout) sql)

  -- the row is saved, and outside a transaction it is committed
  pub puts : (new : State) (r : Result ℕ Error) → old.in_transaction ≡ false → Executes sql (whole n ∷ columns) old new r
      → OnOk r (IsSaved layout n columns old.now new.now × (new.committed ≡ new.now) × IsTrue new.is_open × (new.in_transaction ≡ false))
  puts new (Err e) alone h = tt
  puts new (Ok count) alone h =
      let w = runs_as sql (whole n ∷ columns) old new (layout_schema layout) has (put_command it) it.command it.plain count h in (
        does layout sql n columns it old.step_limit (mode_of old) old.now new.now text w.tally has keyed w.changed,
        w.shown.committed_is ∙ ap (λ b. cond b old.committed new.now) alone,
        w.shown.is_open,
        w.shown.mode ∙ alone,
      )

  may_commit : (db : Trees) → MayCommit old None (put_command it) text (whole n ∷ columns) db → SavesIn layout n columns old.now.trees db
  may_commit db (inl (inl e, rest)) = absurd (let f = e in cc)
  may_commit db (inl (inr named, rest)) = absurd (let f = named.2 in cc)
  may_commit db (inr h) = subst (SavesIn layout n columns old.now.trees) (sym h.5) (does layout sql n columns it old.step_limit (mode_of old) old.now h.2 text h.1 has keyed h.3).trees

  -- a crash during the call may leave the row saved
  pub commits : (db : Trees) → CommitsBy sql (whole n ∷ columns) old db → SavesIn layout n columns old.now.trees db
  commits db h = may_commit db (commits_as sql (whole n ∷ columns) old (layout_schema layout) has (put_command it) it.command it.plain db h)
