use Rattle.std.proofs.Common.{arith}
use Rattle.code_table.specs.Tables.{mean}
use Rattle.text_tape.proofs.Spelled.{pair_is}
use Rattle.text_tape.proofs.spelling.is_pair.Goals as goal

pub returns : goal.returns
returns c =
    pair_is (mean c.args.codes.now) c.args.here.case c.args.next c.args.here.frames.now c.args.here.at c.is_worded.result (omega arith) c.requires.here.holds c.requires.next
    (rw (c.meaning.ensures.value, c.table.ensures) at c.is_worded.ensures)
