use Rattle.rows_saved.proofs.GroupLemmas.{last_hit}
use Rattle.std.proofs.Common.{sym, ◌∙◌}
use Rattle.rows_saved.proofs.grouped.Grouped.waiting_row.Goals as goal

pub returns-then-eq-clause-row : goal.returns-then-eq-clause-row
returns-then-eq-clause-row g c =
    last_hit c.args.self.now.waits c.loop-below.below c.args.number c.index.result.now c.index-then-eq.result.now c.loop-below.invariant.0 c.loop-below-test.true
    (rw (← c.self.view_is) c.index.ensures) (rw (← c.self.view_is) c.index-then-eq.ensures) (sym c.eq.ensures ∙ c.if-eq.true) c.loop-below.invariant.1
