-- The places so far are equal.
use Rattle.std.proofs.Common.{◌≡◌, ◌+◌, drop}
use Rattle.roll_call.specs.Heard.{first_other}
use Rattle.roll_call.proofs.heard.first_other.Given as goal

abbrev pub invariant-loop-place : goal.invariant-loop-place
invariant-loop-place l = first_other (drop l.place l.told) (drop l.place l.known) + l.place ≡ first_other l.told l.known
