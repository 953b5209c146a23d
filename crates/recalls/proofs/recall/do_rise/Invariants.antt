use Rattle.std.specs.Prelude.{drop}
use Rattle.recalls.specs.Recalls.{Rise}
use Rattle.recalls.proofs.recall.do_rise.Given as goal

abbrev pub invariant-loop-number : goal.invariant-loop-number
invariant-loop-number l = record {
  down : Rise 0 l.numbers → Rise l.above (drop l.number-index l.numbers);
  up : Rise l.above (drop l.number-index l.numbers) → Rise 0 l.numbers;
}
