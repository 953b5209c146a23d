use Rattle.std.proofs.Common.{rules, unwrap_or, ◌≡◌, Some, None, Option, List, [], ◌∷◌, ◌++◌, length, length-append, arith, sym, ap, ◌∙◌, true≢false, is_some}
use Rattle.std.specs.Prelude.{option_to_list}
use Rattle.sqlite_value.specs.Order.{Row as Columns}
use Rattle.rows_table.specs.Tables.{layout_tree}
use Rattle.rows_table.specs.Rows.{columns_at}
use Rattle.protocol.specs.Rows.{blank}
use Rattle.acceptor_store.specs.Columns.{row_in, row_or_blank}
use Rattle.acceptor_store.proofs.statements.read.Goals as goal

popped : (o : Option Columns) (rest : List Columns) (c : Columns) → option_to_list o ≡ rest ++ c ∷ [] → o ≡ Some c
popped None rest c e = absurd (omega (arith, ap length e, length-append rest (c ∷ [])))
popped (Some d) [] c e = cc
popped (Some d) (x ∷ rest) c e = absurd (omega (arith, ap length e, length-append rest (c ∷ [])))

pub returns-in-Ok-None : goal.returns-in-Ok-None
returns-in-Ok-None g c = record {
  row = λ serves clean. tt;
  fits = tt;
  serving = search rules;
  refusal = λ serves clean sound.
      let layout = c.args.layout in
      let found = rw c.get.ensures.value at c.in-Ok.ensures.found serves clean in
      let here : columns_at layout ((g.S.Store.view c.args.conn.now.store).trees (layout_tree layout)) c.args.number ≡ Some c.in-Some.columns =
      popped _ c.pop.new.self.items c.in-Some.columns (sym found ∙ c.in-Some.ensures.items) in
      let was = (c.get_row.ensures.serving.same serves clean (c.in-Ok.ensures.serving.opened serves clean)).was_open in
      let none : row_in layout 0 c.in-Some.columns ≡ None = sym c.in-Ok-None.ensures.row ∙ c.in-Ok-None.field-0-is in
      absurd (true≢false (sym (sound was c.args.number c.in-Some.columns here).row ∙ ap is_some none));
}

pub returns-in-Ok-Some : goal.returns-in-Ok-Some
returns-in-Ok-Some g c = record {
  row = λ serves clean.
      let layout = c.args.layout in
      let found = rw c.get.ensures.value at c.in-Ok.ensures.found serves clean in
      let here : columns_at layout ((g.S.Store.view c.args.conn.now.store).trees (layout_tree layout)) c.args.number ≡ Some c.in-Some.columns =
      popped _ c.pop.new.self.items c.in-Some.columns (sym found ∙ c.in-Some.ensures.items) in
      let some : row_in layout 0 c.in-Some.columns ≡ Some c.in-Ok-Some.row = search rules in
      sym (ap (row_or_blank layout) here ∙ ap (λ o. unwrap_or o blank) some);
  fits = search rules;
  serving = search rules;
  refusal = λ serves clean sound. tt;
}
