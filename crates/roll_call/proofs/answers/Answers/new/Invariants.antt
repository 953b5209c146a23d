-- One for each so far.
use Rattle.std.proofs.Common.{◌≡◌, replicate}
use Rattle.roll_call.specs.Answers.{nobody}
use Rattle.roll_call.proofs.answers.Answers.new.Given as goal

abbrev pub invariant-loop : goal.invariant-loop
invariant-loop l = l.askers.items ≡ replicate l.counter nobody
