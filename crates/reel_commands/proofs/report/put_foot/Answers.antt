use Rattle.std.proofs.Common.{◌∙◌}
use Rattle.reel_commands.proofs.Lines.{foot_is}
use Rattle.reel_commands.proofs.report.put_foot.Goals as goal

pub returns : goal.returns
returns c =
    c.in_ok-extend_from_slice.ensures.items
    ∙ rw (c.in_ok-put_named-2.ensures, c.in_ok-put_named.ensures) (foot_is c.args.text.now.items c.args.tapes c.args.frames)
