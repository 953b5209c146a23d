use Rattle.std.proofs.Common.{◌∙◌}
use Rattle.reel_commands.proofs.Lines.{lines_written}
use Rattle.reel_commands.proofs.report.put_lines.Goals as goal

pub loop-before-preserved : goal.loop-before-preserved
loop-before-preserved c =
    c.in_ok-put_line.ensures
    ∙ lines_written c.args.tapes.now c.loop-before.before (record { from = 0; to = 0 }) c.args.text.now.items c.loop-before.text.items c.loop-before-test.true c.loop-before.invariant
