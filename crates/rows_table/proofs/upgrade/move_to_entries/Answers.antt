use Rattle.std.proofs.Common.{arith}
use Rattle.rows_table.specs.declared.layout.LayoutOrigin.TheVariants.{Upgraded}
use Rattle.rows_table.specs.Making.{MakesEntryTable, AddsEntries, SetsLayout, MovesToEntries}
use Rattle.rows_table.proofs.WithinLemmas.{Anything, both}
use Rattle.rows_table.proofs.upgrade.move_to_entries.Goals as goal

pub returns : goal.returns
returns g c =
    let made = c.in_ok-make_entry_table.ensures in
    let filled = c.in_ok-add_entries.ensures in
    let laid = c.in_ok-set_layout.ensures in
    let two = both g.S.Store MakesEntryTable (AddsEntries c.args.entries.now) _ _ _ _ _ made filled Anything (λ early clean. tt) in
    both g.S.Store Anything SetsLayout _ _ _ _ _ two laid (MovesToEntries c.args.entries.now)
    (λ early clean begun has was. laid.done clean _ _ (filled.done early Upgraded _ _ (made.done (omega (arith, filled.survives.clean, early)) begun Upgraded has)) was)
