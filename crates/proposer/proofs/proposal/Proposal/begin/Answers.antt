-- The first Began.
use Rattle.std.proofs.Common.{arith, rules, option_map}
use Rattle.tape_frames.specs.Entries.{owned_entry}
use Rattle.proposer.proofs.Promising.{first_by_slots}
use Rattle.proposer.proofs.proposal.Proposal.begin.Goals as goal

pub returns-in-Some-clause-begun : goal.returns-in-Some-clause-begun
returns-in-Some-clause-begun c = record {
  ballot = search rules;
  stands = λ n marks r o.
      first_by_slots c.slots_of_members.ensures.set c.args.seat.me c.args.seat.members n c.in-Some.ballot (option_map owned_entry c.args.beginning.own) c.args.beginning.report c.args.beginning.now marks c.counted_alone.result
      (c.me-me.ensures.member.0, c.me-me.ensures.member.1) r o c.counted_alone.ensures.items c.counted_alone.ensures.many;
  me = search rules;
  members = search rules;
}
