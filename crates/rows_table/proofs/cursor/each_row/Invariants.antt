use Rattle.std.proofs.Common.{◌≡◌, [], false, List}
use Rattle.sqlite_value.specs.Order.{Row}
use Rattle.sqlite.specs.State.{HasCleanDisk, IsUnchanged, Survives, CommitsShowing}
use Rattle.sqlite.specs.Held.{state}
use Rattle.sqlite.specs.Given.{HasGiven}
use Rattle.rows_table.specs.Cursor.{OnlyReads}
use Rattle.rows_table.proofs.cursor.each_row.Given as goal

-- the rows so far were given and seen, and nothing is changed; whatever was given, rows were seen
abbrev pub invariant-rows : goal.invariant-rows
invariant-rows g l =
    let old = state g.S.Store l.fn.conn in
    let now = state g.S.Store l.rows.conn.now in
    (l.rows.conn.ghost_name ≡ l.initial.rows.conn.ghost_name) × Survives old now (CommitsShowing l.sql [] old) × (l.fn.conn.in_transaction ≡ false → l.rows.conn.now.in_transaction ≡ false)
    × (HasCleanDisk now → OnlyReads old l.sql → IsUnchanged old now × (given : List Row) × HasGiven g.S.Store l.sql [] l.rows.conn.now given × g.T.TableVisitor.saw l.fn.visitor l.visitor given)
    × ((rows : List Row) × g.T.TableVisitor.saw l.fn.visitor l.visitor rows)
