use Rattle.widths.proofs.Matrices.{ReadSoFar}
use Rattle.widths.proofs.matrix.read_matrix.Given as goal

abbrev pub invariant-loop-name : goal.invariant-loop-name
invariant-loop-name l = ReadSoFar l.table.entries l.entries.items l.name-iterator
