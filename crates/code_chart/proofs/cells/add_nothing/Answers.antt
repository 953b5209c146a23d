use Rattle.std.proofs.Common.{◌+◌}
use Rattle.std.specs.Prelude.{codes}
use Rattle.tape_drawing.specs.declared.elements.Style.TheVariants as styles
use Rattle.tape_drawing.specs.Shapes.{Words, shape_text}
use Rattle.tape_drawing.proofs.Sequences.{follows}
use Rattle.code_chart.specs.Lengths.{name_middle, note_left, note_step}
use Rattle.code_chart.specs.Document.{nothing_text}
use Rattle.code_chart.proofs.cells.add_nothing.Goals as goal

pub returns : goal.returns
unfolding nothing_text
returns c =
    follows c.add_words-2.result c.args.text.now.items c.add_words.new.text.items c.add_words-2.new.text.items
    (shape_text (Words styles.Unknown (c.args.spot.at.x + name_middle) c.args.spot.at.y (codes "?"))) (shape_text (Words styles.Fault (c.args.spot.at.x + note_left) (c.args.spot.at.y + note_step) (codes "no meaning")))
    c.in_ok-add_words.ensures c.add_words-2.ensures
