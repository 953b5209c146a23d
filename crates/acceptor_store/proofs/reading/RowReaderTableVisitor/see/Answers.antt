use Rattle.std.proofs.Common.{rules, ◌≡◌, ◌⊎◌, ◌++◌, ◌∷◌, [], Option, None, sym, subst}
use Rattle.std.specs.Prelude.{IsSome}
use Rattle.sqlite_value.specs.Order.{column}
use Rattle.rows_table.specs.declared.layout.Layout.{Layout}
use Rattle.acceptor_store.specs.Columns.{row_in, damage_of}
use Rattle.rows_saved.specs.declared.fault.RowsFault.{RowsFault}
use Rattle.acceptor_store.specs.Sqlite.{IsRefusal}
use Rattle.acceptor_store.specs.Reading.{HasSeen}
use Rattle.acceptor_store.proofs.ReadingLemmas.{seen_after, seen_at_fault, seen_more}
use Rattle.acceptor_store.proofs.reading.RowReaderTableVisitor.see.Goals as goal

pub returns-then-is_some-clause-saw : goal.returns-then-is_some-clause-saw
returns-then-is_some-clause-saw g c = λ first rows leads.
    let some : IsSome c.args.self.now.fault = search rules in
    (leads.0, leads.1, λ none. seen_after g.V.RowVisitor.saw first.layout first.visitor.now rows c.args.columns.now c.args.self.now.fault c.args.self.now.visitor.now some (leads.2 none))

pub returns-in-Err-clause-saw : goal.returns-in-Err-clause-saw
returns-in-Err-clause-saw g c = λ first rows leads.
    let whole : c.args.self.now.fault ≡ None = search rules in
    let here : IsRefusal c.in-Err.fault ⊎ IsSome (damage_of (column c.args.columns.now 0) (row_in c.args.self.now.layout 1 c.args.columns.now)) = search rules in
    let cause : IsRefusal c.in-Err.fault ⊎ IsSome (damage_of (column c.args.columns.now 0) (row_in first.layout 1 c.args.columns.now)) =
    subst (λ layout. IsRefusal c.in-Err.fault ⊎ IsSome (damage_of (column c.args.columns.now 0) (row_in layout 1 c.args.columns.now))) leads.1 here in (
      leads.0,
      leads.1,
      λ none. seen_at_fault g.V.RowVisitor.saw first.layout first.visitor.now rows c.args.columns.now c.args.self.now.visitor.now c.in-Err.fault cause
          (subst (λ (fault : Option RowsFault). HasSeen g.V.RowVisitor.saw first.layout fault first.visitor.now c.args.self.now.visitor.now rows) whole (leads.2 none)),
    )

pub returns-in-Ok-clause-saw : goal.returns-in-Ok-clause-saw
returns-in-Ok-clause-saw g c = λ first rows leads.
    let whole : c.args.self.now.fault ≡ None = search rules in
    let saw = g.V.RowVisitor.saw in
    let mid = c.args.self.now in
    let now = c.see.new.self in (
      leads.0,
      leads.1,
      λ none.
          let before = subst (λ (fault : Option RowsFault). HasSeen saw first.layout fault first.visitor.now mid.visitor.now rows) whole (leads.2 none) in
          let same_layout = subst (λ (layout : Layout). HasSeen saw layout None first.visitor.now mid.visitor.now rows) (sym leads.1) before in
          let more = seen_more saw mid.layout first.visitor.now rows c.args.columns.now mid.visitor.now now _ c.in-Ok.ensures.item (c.see.ensures.saw first.visitor.now) same_layout in
          let with_fault = subst (λ (fault : Option RowsFault). HasSeen saw mid.layout fault first.visitor.now now (rows ++ c.args.columns.now ∷ [])) (sym whole) more in
          subst (λ (layout : Layout). HasSeen saw layout mid.fault first.visitor.now now (rows ++ c.args.columns.now ∷ [])) leads.1 with_fault,
    )
