-- A Began more.
use Rattle.std.proofs.Common.{◌∙◌, ap, sym, refl, rules}
use Rattle.proposer.specs.InHand.{InHand}
use Rattle.proposer.proofs.Reading.{renewed_ballot}
use Rattle.proposer.proofs.Standing.{opened}
use Rattle.proposer.proofs.Promising.{renewed_by_slots}
use Rattle.proposer.proofs.proposal.Proposal.due.Goals as goal

pub returns-in-Some-clause-due : goal.returns-in-Some-clause-due
returns-in-Some-clause-due c = record {
  answer = search rules;
  stands = λ n marks h.
      renewed_by_slots c.slots_of_members.ensures.set _ n marks (opened c.self.view_is h) c.in-Some.ballot c.args.self.now.own c.args.report c.args.now c.self.inside.seat.members c.counted_alone.result
      (ap (λ (q : InHand). q.own) c.self.view_is) (sym c.self.invariant) c.counted_alone.ensures.items c.counted_alone.ensures.many;
  ballot = renewed_ballot _ c.args.promised _ _ c.in-Some.ballot c.in-Some.ensures;
  stays = tt;
  circuit = search rules;
}
