-- Those of the numbers so far that are not in the set are added.
use Rattle.std.proofs.Common.{◌≡◌, ◌≤◌, ◌⊎◌}
use Rattle.by_hand.specs.Scans.{AreMissing}
use Rattle.by_hand.proofs.scan.missing.Given as goal

abbrev pub invariant-loop-place : goal.invariant-loop-place
invariant-loop-place l = record { added : AreMissing l.numbers l.fn.first l.place l.others; within : (l.place ≤ l.place-end) ⊎ (l.place ≡ l.fn.first) }
