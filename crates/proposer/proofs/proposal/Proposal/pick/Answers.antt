-- The greatest report in the slots is that of the marks.
use Rattle.std.proofs.Common.{◌≡◌, ◌∙◌, subst, option_copied, option_map}
use Rattle.tape_frames.specs.Entries.{owned_entry}
use Rattle.protocol.specs.Proposals.{counted, since_began, entry_or, pick}
use Rattle.proposer.specs.InHand.{InHand}
use Rattle.proposer.proofs.Standing.{opened}
use Rattle.proposer.proofs.Promising.{picked_by_slots}
use Rattle.proposer.proofs.proposal.Proposal.pick.Goals as goal

pub returns : goal.returns
returns c = λ n marks p h e.
    c.entry_or.ensures
    ∙ subst (λ (q : InHand). entry_or (option_map owned_entry c.self.inside.own) (option_copied c.greatest_vote.result) ≡ pick p.own (counted q.me n p (since_began n marks))) c.self.view_is
    (picked_by_slots c.slots_of_members.ensures.read _ n marks p (option_copied c.greatest_vote.result) (opened c.self.view_is h) e c.greatest_vote.ensures)
