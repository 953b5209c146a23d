-- What goes to all others says the same to each.
use Rattle.packets.proofs.Sending.{each_alike}
use Rattle.packets.proofs.outgoing.Outgoing.first_alike.Goals as goal

pub returns-in-Prepare-clause-same : goal.returns-in-Prepare-clause-same
returns-in-Prepare-clause-same c =
    each_alike c.self.inside.mail c.self.inside.vote c.in-Some.mail c.args.self.now c.letter.result 0 c.args.place c.self.view_is c.in-Some.is c.letter.ensures.value c.in-Prepare.is
