-- The votes of the page are those of the station.
use Rattle.std.proofs.Common.{subst}
use Rattle.roll_call.specs.Held.{AreVotesOn, HeldValue}
use Rattle.roll_call.proofs.held.HeldVotes.page.Goals as goal

pub returns : goal.returns
returns c = subst (λ (h : HeldValue). AreVotesOn c.args.page h.votes c.of.result) c.self.view_is (record { page = c.of.ensures.page; among = c.of.ensures.among })
