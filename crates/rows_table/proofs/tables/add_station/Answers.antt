use Rattle.std.proofs.Common.{◌∷◌, [], Ok, subst}
use Rattle.sqlite.specs.State.{ExecutesInside}
use Rattle.sqlite.specs.Held.{state}
use Rattle.rows_table.specs.Making.{AddsStation}
use Rattle.rows_table.proofs.WithinLemmas.{ran}
use Rattle.rows_table.specs.Rows.{whole}
use Rattle.rows_table.proofs.StationRowLemmas.{add_text, adds}
use Rattle.rows_table.proofs.tables.add_station.Goals as goal

pub returns : goal.returns
returns g c =
    let gives = c.in_ok-execute.ensures in
    ran g.S.Store (AddsStation c.args.layout c.args.station.now) tt _ _ c.in_ok-execute.field-0 c.args.tx.now c.execute.new.self gives.same_reference gives.survives gives.runs
    (λ clean had.
    let s = c.args.station.now in
    let bound = rw (c.params-to_sql.ensures, c.params-to_sql-2.ensures, c.params-to_sql-3.ensures, c.params-to_sql-4.ensures) at (gives.runs clean had.inside) in
    let laid = subst (λ (n : _). ExecutesInside 0 add_text (whole n ∷ whole s.circuit ∷ whole s.member ∷ whole s.members ∷ []) (state g.S.Store c.args.tx.now.conn.now) (state g.S.Store c.execute.new.self.conn.now) (Ok c.in_ok-execute.field-0)) c.number.ensures bound in
    adds c.args.layout (state g.S.Store c.args.tx.now.conn.now) (state g.S.Store c.execute.new.self.conn.now) s.circuit s.member s.members c.in_ok-execute.field-0 had laid)
