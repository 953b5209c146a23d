use Rattle.std.proofs.Common.{ap, ◌∙◌}
use Rattle.rows_saved.specs.Saved.{Saved, with_row}
use Rattle.rows_saved.specs.Groups.{with_all}
use Rattle.rows_saved.proofs.GroupLemmas.{last_in}
use Rattle.rows_saved.proofs.grouped.GroupedRows.put.Goals as goal

pub returns-clause-row : goal.returns-clause-row
returns-clause-row g c = rw (← c.self.view_is) (λ kept n.
    let saved = g.R.Rows.saved c.self.inside.rows in
    let waits = c.self.inside.waits.items in
    ap (λ l. with_all saved l n) c.in-Ok-push.ensures.items
    ∙ ap (λ (m : Saved). m n) (last_in waits saved (c.args.number, c.in-Ok.copy))
    ∙ ap (λ row. with_row (with_all saved waits) c.args.number row n) c.in-Ok.ensures.same)
