use Rattle.std.proofs.Common.{◌∙◌}
use Rattle.sqlite.specs.Held.{state}
use Rattle.rows_table.specs.Making.{MakesRowTable}
use Rattle.rows_table.proofs.WithinLemmas.{ran}
use Rattle.rows_table.proofs.MakeLemmas.{makes_rows}
use Rattle.rows_table.proofs.tables.make_row_table.Goals as goal

pub returns : goal.returns
returns g c =
    let gives = c.in_ok-execute.ensures in
    ran g.S.Store MakesRowTable tt _ _ c.in_ok-execute.field-0 c.args.tx.now c.execute.new.self gives.same_reference gives.survives gives.runs
    (λ clean begun has none.
    let made = makes_rows (state g.S.Store c.args.tx.now.conn.now) (state g.S.Store c.execute.new.self.conn.now) c.in_ok-execute.field-0 has (gives.runs clean begun) in
    record { schema = made.0; rows = made.1; station = made.2 ∙ none; inside = (gives.runs clean begun).1.mode })
