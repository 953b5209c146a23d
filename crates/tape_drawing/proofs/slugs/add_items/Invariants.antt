use Rattle.std.proofs.Common.{◌≡◌, ◌≤◌, ◌*◌, ◌++◌, take}
use Rattle.std.specs.Prelude.{sum_by}
use Rattle.tape_drawing.specs.Shapes.{text_of}
use Rattle.tape_drawing.specs.Slugs.{item_width, items_shapes}
use Rattle.tape_drawing.proofs.slugs.add_items.Given as goal

abbrev pub invariant-loop-item : goal.invariant-loop-item
invariant-loop-item l = record {
  small : l.from ≤ 65535 * l.item-index;
  from : l.from ≡ sum_by (item_width l.band) (take l.item-index l.items);
  text : l.text.items ≡ l.initial.text.items ++ text_of (items_shapes l.bed.measure l.bed.top l.band (take l.item-index l.items));
}
