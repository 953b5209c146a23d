use Rattle.std.proofs.Common.{◌≡◌, drop, None}
use Rattle.rows_table.specs.Rising.{rise_from}
use Rattle.rows_table.proofs.rising.rise.Given as goal

abbrev pub invariant-loop-row : goal.invariant-loop-row
invariant-loop-row l = rise_from l.last (drop l.row-index l.rows) ≡ rise_from None l.rows
