use Rattle.std.proofs.Common.{◌≡◌, ◌+◌, ◌++◌, take}
use Rattle.std.specs.Prelude.{sum_by}
use Rattle.line_check.specs.Slugs.{sort_width}
use Rattle.tape_drawing.specs.Shapes.{text_of}
use Rattle.tape_drawing.specs.Slugs.{sorts_shapes}
use Rattle.tape_drawing.proofs.slugs.add_sorts.Given as goal

abbrev pub invariant-loop-sort : goal.invariant-loop-sort
invariant-loop-sort l = record {
  from : l.from ≡ l.left + sum_by sort_width (take l.sort-index l.sorts);
  text : l.text.items ≡ l.initial.text.items ++ text_of (sorts_shapes l.bed.measure l.bed.top l.left (take l.sort-index l.sorts));
}
