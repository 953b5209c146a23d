-- The first of the blocks so far.
use Rattle.std.proofs.Common.{◌*◌}
use Rattle.offers.specs.Moments.{MatchIn}
use Rattle.offers.proofs.moments.Moments.first.Given as goal

abbrev pub invariant-loop-block : goal.invariant-loop-block
invariant-loop-block l = MatchIn l.self 0 (256 * l.block) l.first
