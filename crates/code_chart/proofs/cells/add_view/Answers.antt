use Rattle.std.proofs.Common.{◌++◌, refl}
use Rattle.std.specs.Prelude.{codes}
use Rattle.tape_drawing.specs.Shapes.{count_text, pair_text}
use Rattle.tape_drawing.proofs.Sequences.{ended, grown}
use Rattle.code_chart.specs.Lengths.{cell_width, cell_height}
use Rattle.code_chart.specs.Document.{view_text}
use Rattle.code_chart.proofs.cells.add_view.Goals as goal

pub returns : goal.returns
unfolding view_text
returns c =
    let old = c.args.text.now.items in
    let count = count_text (codes "<svg id='frame") c.args.number in
    let pair = pair_text (codes "' viewBox='") c.args.at.x (codes " ") c.args.at.y in
    let size = pair_text (codes " ") cell_width (codes " ") cell_height in
    let placed = grown old c.add_count.new.text.items c.add_pair.new.text.items count pair (count ++ pair) c.in_ok-add_count.ensures c.in_ok-add_pair.ensures refl in
    let sized = grown old c.add_pair.new.text.items c.add_pair-2.new.text.items (count ++ pair) size ((count ++ pair) ++ size) placed c.in_ok-add_pair-2.ensures refl in
    ended c.extend_from_slice.result old c.add_pair-2.new.text.items c.extend_from_slice.new.self.items ((count ++ pair) ++ size) (codes "'>\n") sized c.extend_from_slice.ensures.items
