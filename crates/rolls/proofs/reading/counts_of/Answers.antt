use Rattle.std.proofs.Common.{sym, subst, ◌∙◌, ap}
use Rattle.std.specs.Prelude.{ℕ, List}
use Rattle.rolls.specs.Counts.{AreCounts, counts_fit}
use Rattle.rolls.proofs.Counting.{are_counts}
use Rattle.rolls.proofs.reading.counts_of.Goals as goal

pub invariant_of-result : goal.invariant_of-result
invariant_of-result c =
    subst (λ (l : List ℕ). AreCounts l) (sym c.counts_in-counts.ensures)
    (are_counts _ (ap (λ (l : List ℕ). counts_fit 0 l) (sym (c.as_slice.ensures.value ∙ c.counts_in-counts.ensures)) ∙ sym c.do_fit.ensures ∙ c.if-do_fit.true))
