use Rattle.code_table.specs.Tables.{mean}
use Rattle.std.proofs.Common.{◌+◌}
use Rattle.tape_drawing.proofs.Looking.{meaning_is}
use Rattle.tape_drawing.proofs.frames.add_frame_alone.Goals as goal

pub returns : goal.returns
returns c =
    let strip = c.args.strip.now in
    rw (c.meaning-meaning.ensures.value, meaning_is (mean strip.table.now) strip.tape.now (strip.from + c.args.k) c.args.case c.requires.holds, c.corner-at.ensures.value) at c.add_frame.ensures
