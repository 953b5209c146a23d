use Rattle.configuration.proofs.Entries.{ReadSoFar}
use Rattle.configuration.proofs.stations.read_entries.Given as goal

abbrev pub invariant-loop-index : goal.invariant-loop-index
invariant-loop-index l = ReadSoFar l.found l.entries.items l.addresses.items l.index
