-- A Proposed more.
use Rattle.std.proofs.Common.{ap, rules}
use Rattle.proposer.specs.InHand.{InHand}
use Rattle.proposer.proofs.Standing.{opened, stands_proposed}
use Rattle.proposer.proofs.proposal.Proposal.proposed.Goals as goal

pub returns : goal.returns
returns c = record {
  stands = λ n marks h. stands_proposed _ n marks c.args.self.now.ballot c.args.now (opened c.self.view_is h) (ap (λ (q : InHand). q.ballot) c.self.view_is);
  circuit = search rules;
}
