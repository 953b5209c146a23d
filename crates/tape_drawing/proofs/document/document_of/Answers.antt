use Rattle.std.proofs.Common.{arith}
use Rattle.tape_drawing.proofs.document.document_of.Goals as goal

pub counted-counts-requires : goal.counted-counts-requires
counted-counts-requires c =
    let w = c.after-end.ensures.within in
    (w.some_lines, omega (arith, w.number, w.from, c.requires.tape.few), w.some_slugs, omega (arith, w.faults, w.from, c.requires.tape.few))
