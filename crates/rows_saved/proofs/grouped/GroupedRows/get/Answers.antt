use Rattle.std.proofs.Common.{sym, ap, ◌∙◌}
use Rattle.rows_saved.proofs.GroupLemmas.{found, last_is}
use Rattle.rows_saved.proofs.grouped.GroupedRows.get.Goals as goal

pub returns-then-self-clause-row : goal.returns-then-self-clause-row
returns-then-self-clause-row g c kept =
    let saved = g.R.Rows.saved c.args.self.now.rows in
    let n = c.args.number in
    sym (last_is c.args.self.now.waits saved n ∙ ap (λ o. found o (saved n)) (sym c.in-Ok.ensures.row ∙ c.in-Some.is))

pub returns-in-Ok-get-clause-row : goal.returns-in-Ok-get-clause-row
returns-in-Ok-get-clause-row g c kept =
    let saved = g.R.Rows.saved c.args.self.now.rows in
    let n = c.args.number in
    rw (← c.self.view_is) (c.in-Ok-get.ensures.row kept) ∙ sym (last_is c.args.self.now.waits saved n ∙ ap (λ o. found o (saved n)) (sym c.in-Ok.ensures.row ∙ c.in-None.is))
