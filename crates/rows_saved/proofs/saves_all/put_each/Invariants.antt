use Rattle.rows_saved.proofs.GroupLemmas.{SoFar}
use Rattle.rows_saved.proofs.saves_all.put_each.Given as goal

abbrev pub invariant-loop-item : goal.invariant-loop-item
invariant-loop-item g l = SoFar g.R.Rows l.items l.item-index l.fn.rows l.rows
