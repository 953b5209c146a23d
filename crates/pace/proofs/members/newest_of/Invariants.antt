-- The greatest of those so far.
use Rattle.std.proofs.Common.{◌≡◌, take}
use Rattle.pace.specs.Behind.{newest_of}
use Rattle.pace.proofs.members.newest_of.Given as goal

abbrev pub invariant-loop-each : goal.invariant-loop-each
invariant-loop-each l = l.newest ≡ newest_of l.number l.owner (take l.each-index l.known)
