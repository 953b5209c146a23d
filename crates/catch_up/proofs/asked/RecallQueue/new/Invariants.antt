-- One for each so far.
use Rattle.std.proofs.Common.{◌≡◌, replicate}
use Rattle.catch_up.specs.Asked.{nobody}
use Rattle.catch_up.proofs.asked.RecallQueue.new.Given as goal

abbrev pub invariant-loop : goal.invariant-loop
invariant-loop l = l.askers.items ≡ replicate l.counter nobody
