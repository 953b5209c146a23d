-- The store's tables obey their rules whatever SQLite's user version is.
use Rattle.std.proofs.Common.{◌≡◌, ◌≢◌, List, [], ◌∷◌, true, refl, sym, subst, ◌∙◌, arith}
use Rattle.std.specs.List.{AllByRecursion}
use Rattle.sqlite_value.specs.Order.{Row as Columns}
use Rattle.sqlite_trees.specs.Tree.{Trees}
use Rattle.sqlite_trees.specs.Objects.{catalog_tree, version_tree}
use Rattle.sqlite_schema.specs.declared.schema.Schema.{Schema}
use Rattle.sqlite_schema.specs.declared.schema.Table.{Table}
use Rattle.sqlite_schema.specs.Rules.{passes, Obeys}
use Rattle.sqlite_schema.specs.declared.schema.Constraint.{Constraint}
use Rattle.sqlite_schema.specs.declared.schema.Constraint.TheVariants.{Datatype, NotNull, Check, PrimaryKey, Unique, ForeignKey}
use Rattle.sqlite_catalog.specs.Listing.{IsSound, Lists}
use Rattle.rows_table.specs.declared.layout.Layout.{Layout}
use Rattle.rows_table.specs.declared.layout.Layout.TheVariants as layouts
use Rattle.rows_table.specs.declared.layout.LayoutOrigin.TheVariants.{Created, Upgraded}
use Rattle.rows_table.specs.Tables.{layout_schema, row_schema, entry_schema, station, acceptor_row, acceptor_entry}
use Rattle.acceptor_store.specs.Begun.{SameTables}

-- with no index and no foreign key a row passes by itself
passes_same : (rule : Constraint) (schema : Schema) (t : Table) (old now : Trees) (row : Columns) → schema.indexes ≡ [] → t.references ≡ []
    → passes rule schema now t row ≡ passes rule schema old t row
passes_same Datatype schema t old now row none alone = refl
passes_same NotNull schema t old now row none alone = refl
passes_same Check schema t old now row none alone = refl
passes_same PrimaryKey schema t old now row none alone = refl
passes_same Unique schema t old now row none alone = rw none refl
passes_same ForeignKey schema t old now row none alone = rw alone refl

all_still : (rule : Constraint) (schema : Schema) (t : Table) (old now : Trees) (rows : List Columns) → schema.indexes ≡ [] → t.references ≡ []
    → AllByRecursion (λ row. passes rule schema old t row ≡ true) rows → AllByRecursion (λ row. passes rule schema now t row ≡ true) rows
all_still rule schema t old now [] none alone all = tt
all_still rule schema t old now (row ∷ rows) none alone all = (passes_same rule schema t old now row none alone ∙ all.0, all_still rule schema t old now rows none alone all.1)

rows_kept : (rule : Constraint) (schema : Schema) (t : Table) (old now : Trees) → schema.indexes ≡ [] → t.references ≡ [] → now t.tree ≡ old t.tree
    → AllByRecursion (λ row. passes rule schema old t row ≡ true) (old t.tree) → AllByRecursion (λ row. passes rule schema now t row ≡ true) (now t.tree)
rows_kept rule schema t old now none alone e all =
    subst (λ rows. AllByRecursion (λ row. passes rule schema now t row ≡ true) rows) (sym e) (all_still rule schema t old now (old t.tree) none alone all)

zero_apart : 0 ≢ version_tree
zero_apart e = omega (arith, e)

one_apart : 1 ≢ version_tree
one_apart e = omega (arith, e)

two_apart : 2 ≢ version_tree
two_apart e = omega (arith, e)

still_obeys : (layout : Layout) (old now : Trees) → SameTables old now → Obeys (layout_schema layout) old → Obeys (layout_schema layout) now
still_obeys layouts.One old now same o = record {
  rules = λ rule. let h = o.rules rule in
      (rows_kept rule row_schema station old now refl refl (same 0 zero_apart) h.0, (rows_kept rule row_schema acceptor_row old now refl refl (same 1 one_apart) h.1.0, tt));
  indexed = tt;
}
still_obeys (layouts.Two Created) old now same o = record {
  rules = λ rule. let h = o.rules rule in
      (rows_kept rule (entry_schema Created) station old now refl refl (same 0 zero_apart) h.0, (rows_kept rule (entry_schema Created) (acceptor_entry 1) old now refl refl (same 1 one_apart) h.1.0, tt));
  indexed = tt;
}
still_obeys (layouts.Two Upgraded) old now same o = record {
  rules = λ rule. let h = o.rules rule in (
    rows_kept rule (entry_schema Upgraded) station old now refl refl (same 0 zero_apart) h.0,
    (
      rows_kept rule (entry_schema Upgraded) acceptor_row old now refl refl (same 1 one_apart) h.1.0,
      (rows_kept rule (entry_schema Upgraded) (acceptor_entry 2) old now refl refl (same 2 two_apart) h.1.1.0, tt),
    ),
  );
  indexed = tt;
}

catalog_apart : catalog_tree ≢ version_tree
catalog_apart e = omega (arith, e)

pub still_lists : (layout : Layout) (old now : Trees) → SameTables old now → IsSound (layout_schema layout) old → IsSound (layout_schema layout) now
still_lists layout old now same sound = record {
  lists = subst (λ rows. Lists rows (layout_schema layout)) (sym (same catalog_tree catalog_apart)) sound.lists;
  obeys = still_obeys layout old now same sound.obeys;
}
