use Rattle.std.proofs.Common.{length, ◌≤◌}
use Rattle.protocol.specs.Limits.{most_members}
use Rattle.init_command.proofs.place_list.places_of.Given as goal

-- no more places than a circuit has members
abbrev pub invariant-loop-entry : goal.invariant-loop-entry
invariant-loop-entry l = length l.places.items ≤ most_members
