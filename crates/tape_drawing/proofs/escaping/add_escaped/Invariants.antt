use Rattle.std.proofs.Common.{◌≡◌, ◌++◌, take}
use Rattle.tape_drawing.specs.Shapes.{escaped}
use Rattle.tape_drawing.proofs.escaping.add_escaped.Given as goal

abbrev pub invariant-loop-byte : goal.invariant-loop-byte
invariant-loop-byte l = l.text.items ≡ l.initial.text.items ++ escaped (take l.byte-index l.words)
