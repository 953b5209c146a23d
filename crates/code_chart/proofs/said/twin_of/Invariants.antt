use Rattle.std.proofs.Common.{◌≡◌}
use Rattle.code_table.specs.Tables.{mean}
use Rattle.slug_reader.specs.Positions.{before, first}
use Rattle.code_chart.specs.Cells.{twin_at}
use Rattle.code_chart.proofs.said.twin_of.Given as goal

abbrev pub invariant-loop-other : goal.invariant-loop-other
invariant-loop-other l = l.twin ≡ first (twin_at (mean l.table) l.frame l.word) (before l.other)
