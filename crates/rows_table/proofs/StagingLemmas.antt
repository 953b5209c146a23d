-- The statement that replaces a row, in a transaction.
use Rattle.std.proofs.Common.{◌∷◌, ℕ, Ok, ◌∙◌}
use Rattle.std.specs.Prelude.{List}
use Rattle.sqlite_value.specs.Order.{Row}
use Rattle.sqlite.specs.State.{State, mode_of, ExecutesInside}
use Rattle.sqlite.specs.Listing.{understood}
use Rattle.sqlite.proofs.Callers.{statement_of, runs_as}
use Rattle.rows_table.specs.Tables.{Layout, layout_schema}
use Rattle.rows_table.specs.Rows.{whole, SavesIn}
use Rattle.rows_table.specs.Staging.{IsStaging}
use Rattle.rows_table.proofs.PutLemmas.{Replaces, put_command, does}

-- the row is saved, and the transaction stays open
pub stages : (layout : Layout) (sql : List ℕ) (n : ℕ) (columns : Row) → Replaces layout sql n columns → (old new : State) (count : ℕ) → IsStaging layout old
    → ExecutesInside 0 sql (whole n ∷ columns) old new (Ok count) → IsStaging layout new × SavesIn layout n columns old.now.trees new.now.trees
stages layout sql n columns it old new count had inside =
    let w = runs_as sql (whole n ∷ columns) old new (layout_schema layout) had.schema (put_command it) it.command it.plain count inside.0 in
    let done = does layout sql n columns it old.step_limit (mode_of old) old.now new.now (statement_of sql (understood (layout_schema layout) sql)) w.tally had.schema had.rows w.changed in
    (record { inside = inside.1.mode; schema = done.schema ∙ had.schema; rows = done.trees.rows.rows }, done.trees)
