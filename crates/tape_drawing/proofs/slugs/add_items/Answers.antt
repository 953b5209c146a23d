use Rattle.std.proofs.Common.{◌≡◌, ◌∙◌, ◌+◌, ◌++◌, take, arith}
use Rattle.std.specs.Prelude.{sum_by}
use Rattle.tape_drawing.specs.Shapes.{text_of}
use Rattle.tape_drawing.specs.Slugs.{item_width, item_shapes, stretch, items_shapes}
use Rattle.tape_drawing.proofs.Sequences.{grown, sum_more, laid_more}
use Rattle.tape_drawing.proofs.slugs.add_items.Goals as goal

pub loop-item-preserved : goal.loop-item-preserved
loop-item-preserved c =
    let items = c.args.items.now in
    let bed = c.args.bed in
    let band = c.args.band in
    let i = c.loop-item.item-index in
    let item = c.item-item.result in
    let was = c.loop-item.invariant in
    let width = c.from-width.ensures ∙ c.item_width.ensures in
    let here = 0 + sum_by (item_width band) (take i items) in
    let from : c.loop-item.from ≡ here = omega (arith, was.from) in
    let put : c.add_item.new.text.items ≡ c.loop-item.text.items ++ text_of (item_shapes item (stretch bed.measure bed.top here (item_width band item))) = rw (from, width) at c.in_ok-add_item.ensures in
    record {
      small = omega (arith, was.small, c.item_width.type_inv);
      from = omega (arith, was.from, width, sum_more (item_width band) items i item item c.loop-item-test.true c.item-item.is);
      text = grown c.args.text.now.items c.loop-item.text.items _ (text_of (items_shapes bed.measure bed.top band (take i items))) (text_of (item_shapes item (stretch bed.measure bed.top here (item_width band item)))) _
          was.text put (laid_more item_shapes (item_width band) bed.measure bed.top 0 items i item item c.loop-item-test.true c.item-item.is);
    }
