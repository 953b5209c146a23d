-- The others of the numbers so far are copied.
use Rattle.std.proofs.Common.{◌≡◌, ◌≤◌, length, take}
use Rattle.catch_up.specs.Values.{without}
use Rattle.catch_up.proofs.values.without.Given as goal

abbrev pub invariant-loop-each : goal.invariant-loop-each
invariant-loop-each l = record { others : l.rest.items ≡ without l.number (take l.each-index l.numbers.items); few : length l.rest.items ≤ l.each-index }
