use Rattle.std.proofs.Common.{◌≡◌, ◌++◌}
use Rattle.std.specs.Prelude.{flat_map, map}
use Rattle.code_table.specs.Tables.{mean}
use Rattle.slug_reader.specs.Positions.{before}
use Rattle.code_chart.specs.Cells.{cell}
use Rattle.code_chart.specs.Document.{cell_text}
use Rattle.code_chart.proofs.cells.add_cells.Given as goal

abbrev pub invariant-loop-frame : goal.invariant-loop-frame
invariant-loop-frame l = l.text.items ≡ l.initial.text.items ++ flat_map (cell_text l.sheet.page) (map (cell l.sheet.widths.now (mean l.sheet.table.now)) (before l.frame))
