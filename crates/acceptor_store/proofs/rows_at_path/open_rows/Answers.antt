use Rattle.std.proofs.Common.{rules, ◌≡◌, true, false, refl}
use Rattle.sqlite.specs.Held.{state}
use Rattle.acceptor_store.specs.FoundTables.{has_none}
use Rattle.acceptor_store.proofs.rows_at_path.open_rows.Goals as goal

pub returns-then-has_none : goal.returns-then-has_none
returns-then-has_none g c =
    let none : has_none (state g.S.Store c.args.conn).now.schema ≡ true = search rules in
    record { given = tt; refused = (none, refl) }

pub returns-in-Err : goal.returns-in-Err
returns-in-Err g c =
    let some : has_none (state g.S.Store c.args.conn).now.schema ≡ false = search rules in
    record { given = tt; refused = (some, c.in-Err.ensures.refused) }
