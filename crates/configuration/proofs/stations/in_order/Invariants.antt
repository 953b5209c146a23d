-- The addresses of the members so far, before those of the others.
use Rattle.std.proofs.Common.{◌≡◌, ◌+◌, ◌-◌, ◌++◌, length}
use Rattle.configuration.specs.Stations.{of_members, in_order}
use Rattle.configuration.proofs.stations.in_order.Given as goal

abbrev pub invariant-loop-index : goal.invariant-loop-index
invariant-loop-index l = l.stations.items ++ of_members (l.index + 1) (length l.addresses - l.index) l.addresses ≡ in_order l.addresses
