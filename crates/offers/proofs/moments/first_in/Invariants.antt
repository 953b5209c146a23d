-- The first of those so far.
use Rattle.offers.specs.Moments.{MatchIn}
use Rattle.offers.proofs.moments.first_in.Given as goal

abbrev pub invariant-loop-index : goal.invariant-loop-index
invariant-loop-index l = MatchIn l.moments l.low l.index l.first
