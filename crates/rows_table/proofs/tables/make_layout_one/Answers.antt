use Rattle.std.proofs.Common.{arith}
use Rattle.sqlite.specs.State.{HasCleanDisk}
use Rattle.sqlite.specs.Held.{state}
use Rattle.rows_table.specs.declared.layout.Layout.TheVariants.{One}
use Rattle.rows_table.specs.Making.{MakesStationTable, MakesRowTable, AddsStation, MakesLayout}
use Rattle.rows_table.proofs.WithinLemmas.{Anything, both}
use Rattle.rows_table.proofs.tables.make_layout_one.Goals as goal

pub returns : goal.returns
returns g c =
    let begins = c.in_ok-make_station_table.ensures in
    let makes = c.in_ok-make_row_table.ensures in
    let adds = c.in_ok-add_station.ensures in
    let two = both g.S.Store MakesStationTable MakesRowTable _ _ _ _ _ begins makes Anything (λ early clean. tt) in
    both g.S.Store Anything (AddsStation One c.args.station.now) _ _ _ _ _ two adds (MakesLayout One c.args.station.now)
    (λ second clean begun has.
    let first : HasCleanDisk (state g.S.Store c.make_station_table.new.tx.conn.now) = omega (arith, makes.survives.clean, second) in
    let station = begins.done first begun has in
    adds.done clean (makes.done second (begins.inside first begun) station.0 station.1))
