use Rattle.std.proofs.Common.{rules}
use Rattle.packets.proofs.Sending.{others_count}
use Rattle.packets.proofs.mail.Mail.others.Goals as goal

pub returns-clause-many : goal.returns-clause-many
returns-clause-many c = others_count c.args.self.now.seat _ c.me-me.ensures.member.0 c.me-me.ensures.member.1 (search rules)
