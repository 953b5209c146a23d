-- The lowest page of the members so far.
use Rattle.roll_call.specs.Asks.{IsLowestDue}
use Rattle.roll_call.proofs.choice.lowest_due.Given as goal

abbrev pub invariant-loop-place : goal.invariant-loop-place
invariant-loop-place l = IsLowestDue l.own l.now l.tellers l.place l.lowest
