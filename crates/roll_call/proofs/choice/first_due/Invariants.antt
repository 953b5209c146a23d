-- None of the members so far is asked for its counts.
use Rattle.roll_call.specs.Asks.{NoCountsDue}
use Rattle.roll_call.proofs.choice.first_due.Given as goal

abbrev pub invariant-loop-place : goal.invariant-loop-place
invariant-loop-place l = NoCountsDue l.own l.look l.tellers l.place
