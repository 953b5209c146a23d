-- The new ones of the numbers so far are copied.
use Rattle.std.proofs.Common.{◌≡◌, ◌≤◌, length, take}
use Rattle.catch_up.specs.Waves.{new_ones}
use Rattle.catch_up.proofs.wave.new_of.Given as goal

abbrev pub invariant-loop-each : goal.invariant-loop-each
invariant-loop-each l = record { new : l.rest.items ≡ new_ones l.set (take l.each-index l.numbers); few : length l.rest.items ≤ l.each-index }
