use Rattle.std.proofs.Common.{sym, ◌∙◌, arith}
use Rattle.code_table.specs.Tables.{mean}
use Rattle.text_tape.proofs.Keys.{column_more, column_is}
use Rattle.text_tape.proofs.index.column_of.Goals as goal

pub loop-key-preserved : goal.loop-key-preserved
loop-key-preserved c =
    c.in_ok-push.ensures.items ∙ rw (c.loop-key.invariant, c.keyed_frame.ensures) (sym (column_more (mean c.args.table.now) c.args.case c.loop-key.key))

pub returns : goal.returns
returns c = c.loop-key.invariant ∙ column_is (mean c.args.table.now) c.args.case c.loop-key.key (omega arith)
