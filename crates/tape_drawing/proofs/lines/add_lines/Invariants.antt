use Rattle.std.proofs.Common.{◌≡◌, ◌++◌, take}
use Rattle.code_table.specs.Tables.{mean}
use Rattle.slug_reader.specs.Meanings.{case_at}
use Rattle.tape_drawing.specs.Shapes.{text_of}
use Rattle.tape_drawing.specs.Layout.{after, first_spot}
use Rattle.tape_drawing.specs.Lines.{lines_shapes}
use Rattle.tape_drawing.proofs.lines.add_lines.Given as goal

abbrev pub invariant-loop-fit : goal.invariant-loop-fit
invariant-loop-fit l = record {
  spot : l.reached.spot ≡ after first_spot (take l.fit-index l.lines);
  case : l.reached.case ≡ case_at (mean l.plan.table.now) l.plan.tape.now l.reached.spot.from;
  text : l.text.items ≡ l.initial.text.items ++ text_of (lines_shapes l.plan.page (mean l.plan.table.now) l.plan.widths.now l.plan.tape.now first_spot (take l.fit-index l.lines));
}
