use Rattle.std.proofs.Common.{rules, ◌≡◌, ℕ, true, Some, None, IsTrue, sym, ◌∙◌, subst, refl}
use Rattle.std.specs.List.{AllByRecursion, filter_map}
use Rattle.rows_table.specs.Tables.{layout_tree}
use Rattle.rows_table.specs.Rising.{rise_from, AreListed}
use Rattle.acceptor_store.specs.Columns.{damage_in, item_in, saved_in}
use Rattle.protocol.specs.Rows.{Row}
use Rattle.rows_saved.specs.Saved.{HasPromise, IsListOf}
use Rattle.acceptor_store.proofs.ListLemmas.{lists, no_damage}
use Rattle.acceptor_store.proofs.statements.list.Goals as goal

pub returns-in-Some : goal.returns-in-Some
returns-in-Some g c = record {
  listed = λ serves clean. tt;
  promised = tt;
  fits = tt;
  serving = search rules;
  refusal = λ serves clean sound.
      let layout = c.args.layout in
      let rows = c.in-Ok.rows.items in
      let table = (g.S.Store.view c.args.conn.now.store).trees (layout_tree layout) in
      let has = c.in-Ok.ensures.reads.at_rest serves clean in
      let was = (c.all_rows.ensures.reads.serving.same serves clean (c.in-Ok.ensures.reads.serving.opened serves clean)).was_open in
      let went : IsTrue c.are_rising.result = search rules in
      let listed : AreListed layout table rows = (rw c.as_slice.ensures.value at c.are_rising.ensures.table) went layout table (c.in-Ok.ensures.listed clean has) in
      let some : damage_in layout rows ≡ Some c.in-Some.number = search rules in
      absurd (let e : None ≡ Some c.in-Some.number = sym (no_damage layout table rows listed.each (sound was)) ∙ some in cc);
}

pub returns-in-Ok-items_in : goal.returns-in-Ok-items_in
returns-in-Ok-items_in g c = record {
  listed = λ serves clean.
      let layout = c.args.layout in
      let rows = c.in-Ok.rows.items in
      let trees = (g.S.Store.view c.args.conn.now.store).trees in
      let table = trees (layout_tree layout) in
      let has = c.in-Ok.ensures.reads.at_rest serves clean in
      let rises : rise_from None rows ≡ true = search rules in
      let none : damage_in layout rows ≡ None = search rules in
      let went : IsTrue c.are_rising.result = search rules in
      let listed : AreListed layout table rows = (rw c.as_slice.ensures.value at c.are_rising.ensures.table) went layout table (c.in-Ok.ensures.listed clean has) in
      let items : c.in-Ok-items_in.items.items ≡ filter_map (item_in layout) rows = search rules in
      let promised : AllByRecursion (λ (p : ℕ × Row). HasPromise p.1) c.in-Ok-items_in.items.items = search rules in
      subst (IsListOf (saved_in layout trees)) (sym items) (lists layout table rows (saved_in layout trees) (λ n. refl) listed rises none (subst (AllByRecursion (λ (p : ℕ × Row). HasPromise p.1)) items promised));
  promised = search rules;
  fits = search rules;
  serving = search rules;
  refusal = λ serves clean sound. tt;
}
