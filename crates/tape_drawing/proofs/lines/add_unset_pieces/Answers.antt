use Rattle.std.proofs.Common.{◌≡◌, ◌+◌, ◌++◌, [], ◌∷◌}
use Rattle.tape_drawing.specs.declared.elements.Style.TheVariants as styles
use Rattle.tape_drawing.specs.Lengths.{behind_right, behind_foot}
use Rattle.tape_drawing.specs.Shapes.{Words, shape_text, text_of}
use Rattle.tape_drawing.specs.Slugs.{filled_shapes}
use Rattle.tape_drawing.specs.Lines.{band_in, fault_words}
use Rattle.tape_drawing.proofs.Sequences.{follows, text_append, text_one}
use Rattle.tape_drawing.proofs.lines.add_unset_pieces.Goals as goal

pub returns : goal.returns
returns c =
    let widths = c.args.plan.now.widths.now in
    let fault = c.args.unset.now.fault in
    let top = c.args.below.top in
    let filled = filled_shapes widths.measure top (band_in widths fault.cause) c.args.unset.now.items.now in
    let words = Words styles.Behind behind_right (top + behind_foot) (fault_words fault) in
    let mid : c.add_filled.new.text.items ≡ c.args.text.now.items ++ text_of filled = rw (c.bed_of.ensures.value.0, c.bed_of.ensures.value.1, c.band_in-band.ensures) at c.in_ok-add_filled.ensures in
    rw (text_append filled (words ∷ []), text_one words)
    (follows c.add_fault_behind.result c.args.text.now.items c.add_filled.new.text.items c.add_fault_behind.new.text.items (text_of filled) (shape_text words) mid c.add_fault_behind.ensures)
