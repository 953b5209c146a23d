use Rattle.code_table.proofs.Filling.{ReadSoFar}
use Rattle.code_table.proofs.entries.read_places.Given as goal

abbrev pub invariant-loop-index : goal.invariant-loop-index
invariant-loop-index l = ReadSoFar l.codes.items l.places.items l.index
