-- The Accepts say the same, and so do the news behind them.
use Rattle.packets.proofs.Sending.{accepts_alike, news_alike}
use Rattle.packets.proofs.mail.Mail.first_of_proposal.Goals as goal

pub returns-then-place-others-clause-same : goal.returns-then-place-others-clause-same
returns-then-place-others-clause-same c =
    λ entry. accepts_alike c.args.self.now.seat c.args.self.now.number c.args.self.now.ballot entry c.others-others.result c.args.place c.others-others.ensures.many c.if-place-others.true

pub returns-clause-same : goal.returns-clause-same
returns-clause-same c = λ entry. news_alike c.args.self.now.seat c.args.self.now.number c.args.self.now.ballot entry c.others-others.result c.args.place c.others-others.ensures.many c.if-place-others.false
