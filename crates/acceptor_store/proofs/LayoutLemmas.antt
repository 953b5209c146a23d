-- The layout that the tables of a layout tell.
use Rattle.std.proofs.Common.{◌≡◌, Option, Some, None, sym, ap, ◌∙◌, true≢false, is_some, refl}
use Rattle.std.specs.Prelude.{IfSome}
use Rattle.sqlite_schema.specs.Names.{same_name}
use Rattle.sqlite_schema.specs.declared.schema.Schema.{Schema}
use Rattle.rows_table.specs.declared.layout.Layout.{Layout}
use Rattle.rows_table.specs.Tables.{layout_schema}
use Rattle.rows_table.specs.declared.layout.Layout.TheVariants.{One, Two}
use Rattle.rows_table.specs.declared.layout.LayoutOrigin.TheVariants.{Created, Upgraded}
use Rattle.acceptor_store.specs.Layouts.{layout_in}

-- it is that layout
told : (layout : Layout) → layout_in (layout_schema layout) ≡ Some layout
unfolding same_name
told One = refl
told (Two Created) = refl
told (Two Upgraded) = refl

some_same : (a b : Layout) → Some a ≡ Some b → a ≡ b
some_same a b e = cc

pub tells : (schema : Schema) (layout : Layout) (o : Option Layout) → o ≡ layout_in schema → schema ≡ layout_schema layout → IfSome o (λ l. l ≡ layout)
tells schema layout None e same = tt
tells schema layout (Some l) e same = some_same l layout (e ∙ ap layout_in same ∙ told layout)

-- tables that tell no layout are those of none
pub tells_none : (schema : Schema) (layout : Layout) (o : Option Layout) → o ≡ layout_in schema → o ≡ None → ¬ (schema ≡ layout_schema layout)
tells_none schema layout o e none same =
    let is : Some layout ≡ None = sym (told layout) ∙ ap layout_in (sym same) ∙ sym e ∙ none in
    true≢false (ap is_some is)
