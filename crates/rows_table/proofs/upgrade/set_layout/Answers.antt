use Rattle.sqlite.specs.Held.{state}
use Rattle.rows_table.specs.Making.{SetsLayout}
use Rattle.rows_table.proofs.WithinLemmas.{ran}
use Rattle.rows_table.proofs.LayoutLemmas.{lays}
use Rattle.rows_table.proofs.upgrade.set_layout.Goals as goal

pub returns : goal.returns
returns g c =
    let gives = c.in_ok-execute.ensures in
    ran g.S.Store SetsLayout tt _ _ c.in_ok-execute.field-0 c.args.tx.now c.execute.new.self gives.same_reference gives.survives gives.runs
    (λ clean before rows had is. lays before rows (state g.S.Store c.args.tx.now.conn.now) (state g.S.Store c.execute.new.self.conn.now) c.in_ok-execute.field-0 had is (gives.runs clean had.inside))
