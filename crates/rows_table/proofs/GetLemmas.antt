-- What the query by the number answers.
use Rattle.std.proofs.Common.{◌≡◌, ℕ, List, [], ◌∷◌, length, Some, None, Option, refl, sym, ap, ◌∙◌, arith, option_map}
use Rattle.std.specs.Prelude.{option_to_list}
use Rattle.std.specs.List.{AllByRecursion}
use Rattle.sqlite_value.specs.Order.{Row}
use Rattle.sqlite_trees.proofs.ListLemmas.{all_weaker}
use Rattle.sqlite.specs.Command.TheVariants.{Select}
use Rattle.sqlite.specs.State.{State, Shown}
use Rattle.sqlite.proofs.Callers.{reads_as}
use Rattle.sqlite.specs.Term.{eval_all}
use Rattle.rows_table.specs.Tables.{Layout, layout_tree, layout_schema}
use Rattle.rows_table.specs.declared.layout.Layout.TheVariants.{One, Two}
use Rattle.rows_table.specs.Rows.{whole, AreRows, found_at, shown_of, columns_at}
use Rattle.rows_table.proofs.KeyLemmas.{the_row}
use Rattle.rows_table.proofs.TextLemmas.{by_key}
use Rattle.rows_table.specs.Layouts.{get_text}
use Rattle.rows_table.proofs.ReadTexts.{get_is, shown_columns, names}
use Rattle.rows_table.proofs.QueryLemmas.{shows, counts}

same_some : {a b : Row} → ◌≡◌ {A = Option Row} (Some a) (Some b) → a ≡ b
same_some e = cc

-- what the query shows of a row
shown_is : (layout : Layout) (params r : Row) → eval_all (shown_columns layout) (params ∷ r ∷ []) ≡ shown_of layout r
shown_is One params r = refl
shown_is (Two origin) params r = refl

module _ (layout : Layout) where
  one_of : (o : Option Row) (rows : List Row) → length rows ≡ length (option_to_list o) → AllByRecursion (λ out. (r : Row) × (o ≡ Some r) × (out ≡ shown_of layout r)) rows → rows ≡ option_to_list (option_map (shown_of layout) o)
  one_of None [] len all = refl
  one_of None (x ∷ xs) len all = absurd (omega (arith, len))
  one_of (Some r) [] len all = absurd (omega (arith, len))
  one_of (Some r) (x ∷ []) len all = ap (λ y. y ∷ []) (all.0.2 ∙ ap (shown_of layout) (same_some (sym all.0.1)))
  one_of (Some r) (x ∷ y ∷ xs) len all = absurd (omega (arith, len))

  pub gets : (old new : State) (n : ℕ) (rows : List Row) → old.now.schema ≡ layout_schema layout → AreRows (old.now.trees (layout_tree layout)) → Shown (get_text layout) (whole n ∷ []) old new rows
      → rows ≡ option_to_list (columns_at layout (old.now.trees (layout_tree layout)) n)
  gets old new n rows schema are h =
      let is = get_is layout in
      let tree = layout_tree layout in
      let columns = shown_columns layout in
      let a = (reads_as (get_text layout) (whole n ∷ []) old new (layout_schema layout) schema (Select (record { lets = []; body = by_key tree 0 columns }) (names layout)) is.command is.plain is.unlisted rows h).answer Rattle.sqlite_value.specs.declared.value.Value.TheVariants.Null in
      let db = old.now.trees in
      let len : length rows ≡ length (option_to_list (found_at (db tree) n)) = counts tree db (whole n ∷ []) 0 n columns rows are.keyed refl a ∙ ap length (are.once n) in
      one_of (found_at (db tree) n) rows len
      (all_weaker _ _ (λ out s. (s.0, the_row n (db tree) are.once s.0 s.1 s.2, s.3 ∙ shown_is layout (whole n ∷ []) s.0)) rows (shows tree db (whole n ∷ []) 0 n columns rows are.keyed refl a))
