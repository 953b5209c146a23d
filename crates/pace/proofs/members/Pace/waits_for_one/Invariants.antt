-- None of those so far is behind.
use Rattle.std.proofs.Common.{◌≡◌, take, false}
use Rattle.std.specs.List.{list_any}
use Rattle.pace.specs.Behind.{is_behind}
use Rattle.pace.proofs.members.Pace.waits_for_one.Given as goal

abbrev pub invariant-loop-follower : goal.invariant-loop-follower
invariant-loop-follower l = list_any (is_behind l.now l.self) (take l.follower-index l.followers) ≡ false
