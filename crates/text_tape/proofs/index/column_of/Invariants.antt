use Rattle.std.proofs.Common.{◌≡◌}
use Rattle.code_table.specs.Tables.{mean}
use Rattle.text_tape.proofs.Keys.{column_to}
use Rattle.text_tape.proofs.index.column_of.Given as goal

abbrev pub invariant-loop-key : goal.invariant-loop-key
invariant-loop-key l = l.column.items ≡ column_to (mean l.table) l.case l.key
