use Rattle.std.proofs.Common.{◌≡◌}
use Rattle.rolls.specs.Votes.{set_below}
use Rattle.rolls.proofs.votes.set_in.Given as goal

abbrev pub invariant-loop-place : goal.invariant-loop-place
invariant-loop-place l = l.count ≡ set_below l.bytes l.place
