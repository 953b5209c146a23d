-- One for each so far.
use Rattle.std.proofs.Common.{◌≡◌, replicate}
use Rattle.roll_call.specs.Tellers.{silent}
use Rattle.roll_call.proofs.asks.new_tellers.Given as goal

abbrev pub invariant-loop : goal.invariant-loop
invariant-loop l = l.tellers.items ≡ replicate l.counter silent
