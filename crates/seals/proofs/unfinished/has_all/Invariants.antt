use Rattle.seals.specs.Parts.{IsWhole}
use Rattle.seals.proofs.unfinished.has_all.Given as goal

abbrev pub invariant-loop-i : goal.invariant-loop-i
invariant-loop-i l = IsWhole l.have l.i
