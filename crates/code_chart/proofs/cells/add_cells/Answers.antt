use Rattle.std.proofs.Common.{ℕ, List, ◌++◌, ◌∙◌, ap, arith}
use Rattle.std.specs.Prelude.{flat_map, map}
use Rattle.code_table.specs.Tables.{mean}
use Rattle.code_chart.specs.Cells.{cell}
use Rattle.code_chart.specs.Document.{cell_text}
use Rattle.code_chart.proofs.Chart.{written_more, all_are}
use Rattle.code_chart.proofs.cells.add_cells.Goals as goal

pub loop-frame-preserved : goal.loop-frame-preserved
loop-frame-preserved c =
    c.in_ok-add_cell.ensures
    ∙ written_more (cell_text c.args.sheet.now.page) (cell c.args.sheet.now.widths.now (mean c.args.sheet.now.table.now)) c.loop-frame.frame
    c.args.text.now.items c.loop-frame.text.items c.loop-frame.invariant

pub returns : goal.returns
returns c =
    c.loop-frame.invariant
    ∙ ap (λ (frames : List ℕ). c.args.text.now.items ++ flat_map (cell_text c.args.sheet.now.page) (map (cell c.args.sheet.now.widths.now (mean c.args.sheet.now.table.now)) frames))
    (all_are c.loop-frame.frame (omega (arith, c.loop-frame-test.false, c.loop-frame.auto.frame-end)))
