use Rattle.std.proofs.Common.{take}
use Rattle.std.specs.List.{All}
use Rattle.seals.specs.Parts.{IsFor}
use Rattle.seals.proofs.gathering.find.Given as goal

abbrev pub invariant-loop-i : goal.invariant-loop-i
invariant-loop-i l = All (λ p. ¬ IsFor l.piece.place l.piece.label p) (take l.i l.slots)
