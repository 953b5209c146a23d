use Rattle.sqlite.specs.Held.{state}
use Rattle.rows_table.specs.Making.{MakesStationTable}
use Rattle.rows_table.proofs.WithinLemmas.{ran}
use Rattle.rows_table.proofs.MakeLemmas.{makes_station}
use Rattle.rows_table.proofs.tables.make_station_table.Goals as goal

pub returns : goal.returns
returns g c =
    let gives = c.in_ok-execute.ensures in
    ran g.S.Store MakesStationTable tt _ _ c.in_ok-execute.field-0 c.args.tx.now c.execute.new.self gives.same_reference gives.survives gives.runs
    (λ clean begun has. makes_station (state g.S.Store c.args.tx.now.conn.now) (state g.S.Store c.execute.new.self.conn.now) c.in_ok-execute.field-0 has (gives.runs clean begun))
