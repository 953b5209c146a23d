use Rattle.configuration.proofs.Found.{FoundSoFar}
use Rattle.configuration.proofs.hosts.hosts_of.Given as goal

abbrev pub invariant-loop-index : goal.invariant-loop-index
invariant-loop-index g l = FoundSoFar (g.H.Hosts.finds l.hosts) l.entries.items l.found.items l.index
