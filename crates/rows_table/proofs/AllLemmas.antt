-- What the query of all rows answers.
use Rattle.std.proofs.Common.{Result, Ok, Err, IfOk, OnOk, ◌≡◌, ◌⊎◌, inl, inr, ℕ, List, [], ◌∷◌, ◌++◌, map, refl, sym, ap, subst, ◌∙◌, IsTrue}
use Rattle.std.specs.Prelude.{flat_map, IsSorted}
use Rattle.std.specs.List.Sorted.{IsPermutation}
use Rattle.sqlite_value.specs.Order.{Row, column, value_cmp}
use Rattle.sqlite_value.proofs.OrderLemmas.{then-Equal}
use Rattle.std.specs.declared.cmp.Ordering.{Ordering}
use Rattle.sqlite_value.specs.declared.value.Value.TheVariants.{Null}
use Rattle.sqlite_trees.proofs.ListLemmas.{map-map}
use Rattle.sqlite.specs.Command.TheVariants.{Select}
use Rattle.sqlite.specs.Query.{Output, output, output_cmp}
use Rattle.sqlite.specs.Clock.{timed}
use Rattle.sqlite.specs.Listing.{understood}
use Rattle.sqlite.specs.State.{State, Shown, IsUnchanged}
use Rattle.sqlite.proofs.Callers.{reads_as, command_of, begins_shown, EndsIn}
use Rattle.sqlite.specs.Program.{overlay}
use Rattle.sqlite_trees.specs.Tree.{Trees}
use Rattle.rows_table.specs.Tables.{Layout, layout_tree, layout_schema}
use Rattle.rows_table.specs.declared.layout.Layout.TheVariants.{One, Two}
use Rattle.rows_table.specs.Rows.{with_key, IsListing}
use Rattle.rows_table.specs.Cursor.{HasGivenFirst, ListsFirst}
use Rattle.rows_table.specs.Layouts.{all_text}
use Rattle.rows_table.proofs.ReadTexts.{all_is, in_order, all_names}
use Rattle.rows_table.proofs.QueryLemmas.{overlay_is}

pub as_map : (rows : List Row) → flat_map (λ r. ([] ∷ r ∷ []) ∷ []) rows ≡ map (λ r. [] ∷ r ∷ []) rows
as_map [] = refl
as_map (r ∷ rs) = ap (λ l. ([] ∷ r ∷ []) ∷ l) (as_map rs)

-- so the rows are read of a tree
read_of : (db : Trees) (tree : ℕ) → flat_map (λ r. ([] ∷ r ∷ []) ∷ []) (overlay db [] tree) ≡ map (λ r. [] ∷ r ∷ []) (db tree)
read_of db tree = ap (flat_map (λ r. ([] ∷ r ∷ []) ∷ [])) (overlay_is db tree) ∙ as_map (db tree)

-- what the query shows of a row
listed_is : (layout : Layout) (r : Row) → output (in_order layout) ([] ∷ r ∷ []) ≡ with_key layout r
listed_is One r = refl
listed_is (Two origin) r = refl

by_key_alone : (layout : Layout) → ◌≡◌ {A = Output → Output → Ordering} (output_cmp (in_order layout)) (λ x y. value_cmp (column x.0 0) (column y.0 0))
by_key_alone layout = λ i x y. then-Equal (value_cmp (column x.0 0) (column y.0 0)) i

pub lists : (layout : Layout) (old new : State) (rows : List Row) → old.now.schema ≡ layout_schema layout → Shown (all_text layout) [] old new rows → IsListing layout (old.now.trees (layout_tree layout)) rows
lists layout old new rows schema h =
    let is = all_is layout in
    let query = in_order layout in
    let table = old.now.trees (layout_tree layout) in
    let a = (reads_as (all_text layout) [] old new (layout_schema layout) schema (Select (record { lets = []; body = query }) (all_names layout)) is.command is.plain is.unlisted rows h).answer Null in
    let kept : a.kept ≡ map (output query) (map (λ r. [] ∷ r ∷ []) table) = a.distinct ∙ ap (map (output query)) (a.grouped ∙ read_of old.now.trees (layout_tree layout)) in
    let each : ◌≡◌ {A = Row → Output} (λ r. output query ([] ∷ r ∷ [])) (with_key layout) = λ i r. listed_is layout r i in
    record {
      ordered = a.ordered;
      same = subst (λ k. IsPermutation k a.ordered) (kept ∙ map-map (output query) (λ r. [] ∷ r ∷ []) table ∙ ap (λ f. map f table) each) a.same;
      sorted = subst (λ R. IsSorted R a.ordered) (by_key_alone layout) a.sorted;
      shown = a.shown;
    }

-- rows that the answer begins with begin the listing: the query computes no table, so it ends
pub lists_first : (layout : Layout) (s : State) (rows : List Row) → s.now.schema ≡ layout_schema layout → HasGivenFirst (all_text layout) s rows → ListsFirst layout s rows
lists_first layout s rows schema h =
    let same : IsUnchanged s s = (record { was_open = h.0; is_open = h.0; now_is = refl; committed_is = refl; mode = refl }, record { changes = refl; last_rowid = refl }, refl) in
    let whole = begins_shown (all_text layout) [] s s rows h.1 same (λ c db it source.
    let command = ap command_of (sym it.is ∙ ap (λ has. understood has (all_text layout)) schema) ∙ (all_is layout).command in
    subst (λ k. EndsIn k db (timed [] c.formats it.now)) (sym command) tt) in
    (h.0, whole.0, lists layout s s (rows ++ whole.0) schema whole.1)

-- what was seen of an answer was seen of the listing
pub saw_first : {T : Type 0} (saw : T → T → List Row → Type 0) (was now : T) (layout : Layout) (s : State) → (IsTrue s.is_open → s.now.schema ≡ layout_schema layout)
    → (now ≡ was) ⊎ ((rows : List Row) × HasGivenFirst (all_text layout) s rows × saw was now rows) → (now ≡ was) ⊎ ((rows : List Row) × ListsFirst layout s rows × saw was now rows)
saw_first saw was now layout s schema (inl same) = inl same
saw_first saw was now layout s schema (inr h) = inr (h.0, lists_first layout s h.0 (schema h.1.0) h.1, h.2)

-- what holds of an answer
pub mapped : {V E : Type 0} {P Q : V → Type 0} → ((v : V) → P v → Q v) → (r : Result V E) → IfOk r P → IfOk r Q
mapped f (Ok v) p = f v p
mapped f (Err e) p = tt

pub on_ok : {V E : Type 0} {P : V → Type 0} {X : Type 0} → ((v : V) → P v → X) → (r : Result V E) → IfOk r P → OnOk r X
on_ok f (Ok v) p = f v p
on_ok f (Err e) p = tt

pub as_answered : {V E : Type 0} {X Y : Type 0} → (X → Y) → (r : Result V E) → OnOk r X → OnOk r Y
as_answered f (Ok v) x = f x
as_answered f (Err e) x = tt
