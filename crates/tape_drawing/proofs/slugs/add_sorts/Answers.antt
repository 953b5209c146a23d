use Rattle.std.proofs.Common.{◌≡◌, ◌∙◌, ◌+◌, ◌++◌, take, arith}
use Rattle.std.specs.Prelude.{sum_by}
use Rattle.line_check.specs.Slugs.{sort_width}
use Rattle.tape_drawing.specs.Shapes.{text_of}
use Rattle.tape_drawing.specs.Slugs.{sort_shapes, stretch, sorts_shapes}
use Rattle.tape_drawing.proofs.Sequences.{grown, sum_more, laid_more}
use Rattle.tape_drawing.proofs.slugs.add_sorts.Goals as goal

pub loop-sort-preserved : goal.loop-sort-preserved
loop-sort-preserved c =
    let sorts = c.args.sorts.now in
    let bed = c.args.bed in
    let i = c.loop-sort.sort-index in
    let sort = c.sort-item.result in
    let was = c.loop-sort.invariant in
    let width = c.from-width.ensures ∙ c.width_of.ensures in
    let here = c.args.left + sum_by sort_width (take i sorts) in
    let put : c.add_sort.new.text.items ≡ c.loop-sort.text.items ++ text_of (sort_shapes sort (stretch bed.measure bed.top here (sort_width sort))) = rw (was.from, width) at c.in_ok-add_sort.ensures in
    record {
      from = omega (arith, was.from, width, sum_more sort_width sorts i sort sort c.loop-sort-test.true c.sort-item.is);
      text = grown c.args.text.now.items c.loop-sort.text.items _ (text_of (sorts_shapes bed.measure bed.top c.args.left (take i sorts))) (text_of (sort_shapes sort (stretch bed.measure bed.top here (sort_width sort)))) _
          was.text put (laid_more sort_shapes sort_width bed.measure bed.top c.args.left sorts i sort sort c.loop-sort-test.true c.sort-item.is);
    }
