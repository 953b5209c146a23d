-- One Nack more.
use Rattle.std.proofs.Common.{rules}
use Rattle.proposer.proofs.Standing.{opened, stands_denied}
use Rattle.proposer.proofs.proposal.Proposal.nack.Goals as goal

pub returns : goal.returns
returns c = record {
  kept = search rules;
  stands = λ n marks h. stands_denied _ n marks c.args.promised c.greater-self-inside.result (opened c.self.view_is h) c.greater-self-inside.ensures;
  stays = search rules;
  circuit = search rules;
}
