use Rattle.std.proofs.Common.{sym, subst}
use Rattle.std.specs.Prelude.{ℕ, List}
use Rattle.rolls.specs.Counts.{AreCounts}
use Rattle.rolls.proofs.Counting.{none_are}
use Rattle.rolls.proofs.counts.Counts.none.Goals as goal

pub invariant_of-result : goal.invariant_of-result
invariant_of-result c = subst (λ (l : List ℕ). AreCounts l) (sym c.from.ensures.0) none_are
