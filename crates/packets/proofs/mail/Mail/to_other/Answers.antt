-- The packet to another.
use Rattle.std.proofs.Common.{ap, ◌∙◌, Some}
use Rattle.packets.specs.Bodies.{said}
use Rattle.packets.proofs.Sending.{none_sent_at, sent_at, other_keeps}
use Rattle.packets.proofs.mail.Mail.to_other.Goals as goal

pub returns-then-place-others : goal.returns-then-place-others
returns-then-place-others c =
    none_sent_at c.args.self.now.seat c.args.self.now.number c.args.self.now.ballot (said c.args.body) c.args.place c.others.result c.others.ensures.many c.if-place-others.true

pub packet_to-requires : goal.packet_to-requires
packet_to-requires c =
    other_keeps c.args.self.now.seat c.args.self.now.number c.args.self.now.ballot (said c.args.body) c.other.result c.other.ensures.apart (c.requires.sender c.other.result) c.requires.says

pub returns : goal.returns
returns c =
    ap Some c.packet_to.ensures
    ∙ sent_at c.args.self.now.seat c.args.self.now.number c.args.self.now.ballot (said c.args.body) c.args.place c.other.result c.other.ensures.value
