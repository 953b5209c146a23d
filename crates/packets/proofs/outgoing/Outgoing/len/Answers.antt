-- How many packets each letter sends.
use Rattle.std.proofs.Common.{sym, ◌∙◌}
use Rattle.packets.proofs.Sending.{prepare_many, proposal_many, vote_many}
use Rattle.packets.proofs.outgoing.Outgoing.len.Goals as goal

pub returns-in-Prepare : goal.returns-in-Prepare
returns-in-Prepare c =
    prepare_many c.self.inside.mail c.self.inside.vote c.in-Some.mail c.args.self.now c.others-others.result c.self.view_is c.in-Some.is (sym c.letter.ensures.value ∙ c.in-Prepare.is) c.others-others.ensures.many

pub returns-in-Proposal : goal.returns-in-Proposal
returns-in-Proposal c =
    proposal_many c.self.inside.mail c.self.inside.vote c.in-Some.mail c.args.self.now c.others-others.result c.self.view_is c.in-Some.is (sym c.letter.ensures.value ∙ c.in-Proposal.is)
    (sym c.is_some.ensures ∙ c.if-is_some.true) c.others-others.ensures.many

pub returns-in-Vote : goal.returns-in-Vote
returns-in-Vote c =
    vote_many c.self.inside.mail c.self.inside.vote c.in-Some.mail c.args.self.now c.others-others.result c.self.view_is c.in-Some.is (sym c.letter.ensures.value ∙ c.in-Vote.is)
    (sym c.if-is_some-2.ensures) c.others-others.ensures.many
