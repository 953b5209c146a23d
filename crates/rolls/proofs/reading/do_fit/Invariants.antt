use Rattle.std.proofs.Common.{◌≡◌}
use Rattle.std.specs.Prelude.{drop}
use Rattle.rolls.specs.Counts.{counts_fit}
use Rattle.rolls.proofs.reading.do_fit.Given as goal

abbrev pub invariant-loop-count : goal.invariant-loop-count
invariant-loop-count l = record {
  turn : l.page ≡ l.count-index;
  fit : counts_fit 0 l.counts ≡ counts_fit l.page (drop l.count-index l.counts);
}
