-- So many were taken away so far.
use Rattle.std.proofs.Common.{◌≡◌, drop}
use Rattle.run_command.proofs.backlog.drop_first.Given as goal

abbrev pub invariant-loop-place : goal.invariant-loop-place
invariant-loop-place l = l.waits.items ≡ drop l.place l.initial.waits.items
