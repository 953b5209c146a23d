use Rattle.std.proofs.Common.{◌≡◌, ◌+◌, ◌*◌, ◌++◌, length}
use Rattle.std.specs.Prelude.{◌-◌}
use Rattle.rolls.specs.Pages.{pages}
use Rattle.rolls.specs.Reading.{counts_in}
use Rattle.rolls.proofs.reading.counts_in.Given as goal

abbrev pub invariant-loop : goal.invariant-loop
invariant-loop l = record {
  read : counts_in pages l.bytes ≡ l.counts.items ++ counts_in (pages - l.counter) l.rest;
  many : length l.counts.items ≡ l.counter;
  left : length l.rest + 2 * l.counter ≡ length l.bytes;
}
