use Rattle.std.proofs.Common.{take}
use Rattle.std.specs.Prelude.{flat_map}
use Rattle.std.specs.Io.KnownBytes.{Appends}
use Rattle.line_check.specs.Galley.{sort_text}
use Rattle.line_check.proofs.galleys.put_sorts.Given as goal

abbrev pub invariant-loop-sort : goal.invariant-loop-sort
invariant-loop-sort g l = Appends (g.W.Write.contents l.initial.out) (g.W.Write.contents l.out) (flat_map sort_text (take l.sort-index l.sorts))
