-- A share for each so far.
use Rattle.std.proofs.Common.{◌≡◌}
use Rattle.pace.specs.Room.{no_shares}
use Rattle.pace.proofs.waiting.empty_shares.Given as goal

abbrev pub invariant-loop : goal.invariant-loop
invariant-loop l = l.shares.items ≡ no_shares l.members l.counter
