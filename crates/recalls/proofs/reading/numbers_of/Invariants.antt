use Rattle.std.proofs.Common.{◌≡◌, length}
use Rattle.std.specs.Prelude.{◌-◌}
use Rattle.recalls.specs.Reading.{numbers_at}
use Rattle.recalls.proofs.Steps.{with_front}
use Rattle.recalls.proofs.reading.numbers_of.Given as goal

abbrev pub invariant-loop : goal.invariant-loop
invariant-loop l = record {
  read : numbers_at l.count 0 l.bytes ≡ with_front l.numbers.items (numbers_at (l.count - l.counter) l.above l.rest);
  many : length l.numbers.items ≡ l.counter;
}
