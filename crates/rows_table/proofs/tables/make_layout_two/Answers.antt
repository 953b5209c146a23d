use Rattle.std.proofs.Common.{◌∙◌, arith}
use Rattle.sqlite.specs.State.{HasCleanDisk}
use Rattle.sqlite.specs.Held.{state}
use Rattle.rows_table.specs.Tables.{station_tree}
use Rattle.rows_table.specs.declared.layout.Layout.TheVariants.{Two}
use Rattle.rows_table.specs.declared.layout.LayoutOrigin.TheVariants.{Created}
use Rattle.rows_table.specs.Making.{MakesStationTable, MakesEntryTable, AddsStation, MakesLayout}
use Rattle.rows_table.proofs.WithinLemmas.{Anything, both}
use Rattle.rows_table.proofs.tables.make_layout_two.Goals as goal

pub returns : goal.returns
returns g c =
    let begins = c.in_ok-make_station_table.ensures in
    let makes = c.in_ok-make_entry_table.ensures in
    let adds = c.in_ok-add_station.ensures in
    let two = both g.S.Store MakesStationTable MakesEntryTable _ _ _ _ _ begins makes Anything (λ early clean. tt) in
    both g.S.Store Anything (AddsStation (Two Created) c.args.station.now) _ _ _ _ _ two adds (MakesLayout (Two Created) c.args.station.now)
    (λ second clean begun has.
    let first : HasCleanDisk (state g.S.Store c.make_station_table.new.tx.conn.now) = omega (arith, makes.survives.clean, second) in
    let station = begins.done first begun has in
    let made = makes.done second (begins.inside first begun) Created station.0 in
    adds.done clean (record { schema = made.schema; rows = made.entries; station = made.others station_tree (omega arith) ∙ station.1; inside = made.inside }))
