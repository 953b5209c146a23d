-- The list of a database's objects tells its tables.
use Rattle.std.proofs.Common.{◌≡◌, ◌+◌, ℕ, pos, List, [], ◌∷◌, Result, Ok, filter, length, refl, sym, ap, ap₂, subst, ◌∙◌, arith}
use Rattle.std.specs.List.{AllZip}
use Rattle.sqlite_value.specs.declared.value.Value.TheVariants.{Int, Text}
use Rattle.sqlite_value.specs.Order.{Row as Columns}
use Rattle.sqlite_schema.specs.declared.schema.Table.{Table}
use Rattle.sqlite_schema.specs.declared.schema.Schema.{Schema}
use Rattle.sqlite.specs.Compile.{table_defined_by}
use Rattle.sqlite_catalog.specs.Listing.{IsTableRow, Lists, is_table_row, is_index_row, is_view_row}
use Rattle.rows_table.specs.declared.layout.Layout.{Layout}
use Rattle.rows_table.specs.Tables.{layout_schema}
use Rattle.rows_table.specs.declared.layout.Layout.TheVariants.{One, Two}
use Rattle.rows_table.specs.declared.layout.LayoutOrigin.TheVariants.{Created, Upgraded}

-- what goes with each element, where one thing alone goes with an element
same_all : {A B : Type 0} (R : A → B → Type 0) → ((a : A) (b c : B) → R a b → R a c → b ≡ c) → (xs : List A) (ys zs : List B) → AllZip R xs ys → AllZip R xs zs → ys ≡ zs
same_all R one [] [] [] p q = refl
same_all R one [] [] (z ∷ zs) p q = absurd q
same_all R one [] (y ∷ ys) zs p q = absurd p
same_all R one (x ∷ xs) [] zs p q = absurd p
same_all R one (x ∷ xs) (y ∷ ys) [] p q = absurd q
same_all R one (x ∷ xs) (y ∷ ys) (z ∷ zs) p q = ap₂ (λ b bs. b ∷ bs) (one x y z p.0 q.0) (same_all R one xs ys zs p.1 q.1)

none_either : {A B C : Type 0} (R : A → B → Type 0) (Q : A → C → Type 0) (xs : List A) (ys : List C) → AllZip R xs [] → AllZip Q xs ys → ys ≡ []
none_either R Q [] [] p q = refl
none_either R Q [] (y ∷ ys) p q = absurd q
none_either R Q (x ∷ xs) ys p q = absurd p

ok_same : {A E : Type 0} (r : Result A E) (a b : A) → r ≡ Ok a → r ≡ Ok b → a ≡ b
ok_same r a b p q = let e = sym p ∙ q in cc

same_table : (row : Columns) (t u : Table) → IsTableRow row t → IsTableRow row u → t ≡ u
same_table row t u a b =
    let ids : Int (pos (t.tree + 1)) ≡ Int (pos (u.tree + 1)) = sym a.described.id ∙ b.described.id in
    let next : t.tree + 1 ≡ u.tree + 1 = cc in
    let trees : t.tree ≡ u.tree = omega (arith, next) in
    let texts : Text a.sql ≡ Text b.sql = sym a.sql_is ∙ b.sql_is in
    let sqls : a.sql ≡ b.sql = cc in
    let made = ok_same (table_defined_by b.sql) a.defined.0 b.defined.0 (ap table_defined_by (sym sqls) ∙ a.defined.1) b.defined.1 in
    a.defined.2 ∙ ap₂ (λ (m : Table) (n : ℕ). record m { tree = n }) made trees ∙ sym b.defined.2

-- a layout has no index and no view
no_indexes : (layout : Layout) → (layout_schema layout).indexes ≡ []
no_indexes One = refl
no_indexes (Two Created) = refl
no_indexes (Two Upgraded) = refl

no_views : (layout : Layout) → (layout_schema layout).views ≡ []
no_views One = refl
no_views (Two Created) = refl
no_views (Two Upgraded) = refl

-- where it lists the tables of a layout, and no others, these are all that it lists
pub same_schema : (layout : Layout) (objects : List Columns) (schema : Schema) → Lists objects (layout_schema layout) → Lists objects schema → schema ≡ layout_schema layout
same_schema layout objects schema ours lists =
    let tables = same_all IsTableRow same_table (filter is_table_row objects) schema.tables (layout_schema layout).tables lists.listed.tables ours.listed.tables in
    let indexes = none_either _ _ (filter is_index_row objects) schema.indexes (subst (AllZip _ (filter is_index_row objects)) (no_indexes layout) ours.listed.indexes) lists.listed.indexes in
    let views = none_either _ _ (filter is_view_row objects) schema.views (subst (AllZip _ (filter is_view_row objects)) (no_views layout) ours.listed.views) lists.listed.views in
    λ i. record { tables = tables i; indexes = (indexes ∙ sym (no_indexes layout)) i; views = (views ∙ sym (no_views layout)) i }

-- how many columns the second table has
width : List Table → ℕ
width [] = 0
width (t ∷ []) = 0
width (t ∷ u ∷ ts) = length u.columns

widths : (a b : Layout) → layout_schema a ≡ layout_schema b → (width (layout_schema a).tables ≡ width (layout_schema b).tables) × (length (layout_schema a).tables ≡ length (layout_schema b).tables)
widths a b e = (ap (λ (s : Schema). width s.tables) e, ap (λ (s : Schema). length s.tables) e)

six_seven : ¬ (◌≡◌ {A = ℕ} 6 7)
six_seven e = omega (arith, e)

seven_six : ¬ (◌≡◌ {A = ℕ} 7 6)
seven_six e = omega (arith, e)

two_three : ¬ (◌≡◌ {A = ℕ} 2 3)
two_three e = omega (arith, e)

three_two : ¬ (◌≡◌ {A = ℕ} 3 2)
three_two e = omega (arith, e)

-- the tables tell the layout
pub same_layout : (a b : Layout) → layout_schema a ≡ layout_schema b → a ≡ b
unfolding width
same_layout One One e = refl
same_layout One (Two Created) e = absurd (six_seven (widths One (Two Created) e).0)
same_layout One (Two Upgraded) e = absurd (two_three (widths One (Two Upgraded) e).1)
same_layout (Two Created) One e = absurd (seven_six (widths (Two Created) One e).0)
same_layout (Two Created) (Two Created) e = refl
same_layout (Two Created) (Two Upgraded) e = absurd (two_three (widths (Two Created) (Two Upgraded) e).1)
same_layout (Two Upgraded) One e = absurd (three_two (widths (Two Upgraded) One e).1)
same_layout (Two Upgraded) (Two Created) e = absurd (three_two (widths (Two Upgraded) (Two Created) e).1)
same_layout (Two Upgraded) (Two Upgraded) e = refl
