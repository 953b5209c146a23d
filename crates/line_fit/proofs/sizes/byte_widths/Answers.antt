use Rattle.std.proofs.Common.{sym, ◌∙◌, arith}
use Rattle.line_fit.proofs.Bytes.{widths_more, widths_are}
use Rattle.line_fit.proofs.sizes.byte_widths.Goals as goal

pub loop-byte-preserved : goal.loop-byte-preserved
loop-byte-preserved c = c.in_ok-push.ensures.items ∙ rw (c.loop-byte.invariant, c.byte_width.ensures) (sym (widths_more c.args.widths.now c.loop-byte.byte))

pub returns : goal.returns
returns c = c.loop-byte.invariant ∙ widths_are c.args.widths.now c.loop-byte.byte (omega arith)
