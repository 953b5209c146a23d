use Rattle.std.specs.Prelude.{codes}
use Rattle.tape_drawing.specs.Shapes.{count_text, group_text}
use Rattle.tape_drawing.proofs.Sequences.{ended}
use Rattle.tape_drawing.proofs.elements.add_group.Goals as goal

pub returns : goal.returns
unfolding group_text
returns c =
    ended c.extend_from_slice.result c.args.text.now.items c.add_count.new.text.items c.extend_from_slice.new.self.items (count_text c.args.lead.now c.args.number) (codes "'>\n")
    c.in_ok-add_count.ensures c.extend_from_slice.ensures.items
