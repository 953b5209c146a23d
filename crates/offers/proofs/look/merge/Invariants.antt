use Rattle.std.proofs.Common.{◌≡◌, ◌≤◌, ◌++◌, length, map, drop, vec_capacity}
use Rattle.offers.specs.Order.{from, Rises, rising_from}
use Rattle.offers.specs.Looks.{seen, looked}
use Rattle.offers.proofs.look.merge.Given as goal

abbrev pub invariant-loop-each : goal.invariant-loop-each
invariant-loop-each l = record {
  known : Rises l.initial.rest.items;
  rest : l.rest.items ≡ from l.low l.initial.rest.items;
  done : looked l.initial.rest.items l.now l.found ≡ l.files.items ++ map (seen l.initial.rest.items l.now) (rising_from l.low (drop l.each-index l.found));
  few : length l.files.items ≤ l.each-index;
  room : length l.found ≤ vec_capacity l.files;
}
