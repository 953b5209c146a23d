use Rattle.std.proofs.Common.{option_copied}
use Rattle.proposer.specs.Slots.{vote_at}
use Rattle.proposer.specs.Greatest.{IsGreatest}
use Rattle.proposer.proofs.promises.greatest_vote.Given as goal

abbrev pub invariant-loop-place : goal.invariant-loop-place
invariant-loop-place l = IsGreatest (vote_at l.slots) l.place (option_copied l.greatest)
