use Rattle.std.proofs.Common.{◌≡◌, ◌≤◌, take, count_by, is_some}
use Rattle.proposer.proofs.promises.is_quorum.Given as goal

abbrev pub invariant-loop-place : goal.invariant-loop-place
invariant-loop-place l = record { counted : l.count ≡ count_by is_some (take l.place l.slots); few : l.count ≤ l.place }
