use Rattle.std.proofs.Common.{sym, arith}
use Rattle.code_table.specs.Tables.{mean}
use Rattle.text_tape.specs.Codes.{is_meant}
use Rattle.text_tape.proofs.Lists.{none_more}
use Rattle.text_tape.proofs.Finding.{frame_found, frame_none}
use Rattle.text_tape.proofs.codes.frame_of.Goals as goal

pub returns-then-is_meant : goal.returns-then-is_meant
returns-then-is_meant c =
    sym (frame_found (mean c.args.table.now) c.args.case c.args.meaning.now c.loop-frame.frame c.loop-frame.invariant (sym c.if-is_meant.ensures) c.loop-frame-test.true)

pub loop-frame-preserved : goal.loop-frame-preserved
loop-frame-preserved c =
    none_more (λ f. is_meant c.args.meaning.now (mean c.args.table.now c.args.case f)) c.loop-frame.frame c.loop-frame.invariant (sym c.if-is_meant.ensures)

pub returns : goal.returns
returns c = sym (frame_none (mean c.args.table.now) c.args.case c.args.meaning.now c.loop-frame.frame (omega arith) c.loop-frame.invariant)
