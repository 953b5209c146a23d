-- So many of the numbers so far.
use Rattle.std.proofs.Common.{◌≡◌, ◌≤◌}
use Rattle.roll_call.specs.Held.{count_below}
use Rattle.roll_call.proofs.held.count_on.Given as goal

abbrev pub invariant-loop-place : goal.invariant-loop-place
invariant-loop-place l = record { many : l.count ≡ count_below l.votes l.page l.place; few : l.count ≤ l.place }
