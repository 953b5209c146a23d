-- The Accepts stand first.
use Rattle.std.proofs.Common.{sym, ◌∙◌}
use Rattle.protocol.specs.Packets.{Accept, Accepted}
use Rattle.tape_frames.specs.Entries.{lent_entry}
use Rattle.packets.proofs.Sending.{proposed_first, proposed_second}
use Rattle.packets.proofs.mail.Mail.proposal.Goals as goal

pub returns-then-place-others : goal.returns-then-place-others
returns-then-place-others c =
    c.to_other.ensures
    ∙ sym (proposed_first c.args.self.now.seat c.args.self.now.number c.args.self.now.ballot (Accept (lent_entry c.args.entry)) (Accepted (lent_entry c.args.entry)) c.others-others.result c.args.place c.others-others.ensures.many c.if-place-others.true)

pub returns : goal.returns
returns c =
    c.to_other-2.ensures
    ∙ sym (proposed_second c.args.self.now.seat c.args.self.now.number c.args.self.now.ballot (Accept (lent_entry c.args.entry)) (Accepted (lent_entry c.args.entry)) c.others-others.result c.args.place c.others-others.ensures.many c.if-place-others.false)
