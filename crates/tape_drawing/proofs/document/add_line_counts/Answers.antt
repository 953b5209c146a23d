use Rattle.std.proofs.Common.{◌++◌, refl}
use Rattle.std.specs.Prelude.{codes}
use Rattle.tape_drawing.specs.Shapes.{count_text}
use Rattle.tape_drawing.specs.Document.{line_counts}
use Rattle.tape_drawing.proofs.Sequences.{grown, follows}
use Rattle.tape_drawing.proofs.document.add_line_counts.Goals as goal

pub returns : goal.returns
unfolding line_counts
returns c =
    let lines = count_text (codes " | lines ") c.args.counts.lines in
    let slugs = count_text (codes " | slugs ") c.args.counts.slugs in
    let old = c.args.words.now.items in
    let both = grown old c.add_count.new.text.items c.add_count-2.new.text.items lines slugs (lines ++ slugs) c.in_ok-add_count.ensures c.in_ok-add_count-2.ensures refl in
    follows c.add_count-3.result old c.add_count-2.new.text.items c.add_count-3.new.text.items (lines ++ slugs) (count_text (codes " | lines that do not set ") c.args.counts.faults) both c.add_count-3.ensures
