use Rattle.std.proofs.Common.{take}
use Rattle.std.specs.Io.KnownBytes.{Appends}
use Rattle.line_check.specs.Galley.{galley_from}
use Rattle.line_check.proofs.galleys.galley.Given as goal

abbrev pub invariant-loop-before : goal.invariant-loop-before
invariant-loop-before g l = Appends (g.W.Write.contents l.initial.out) (g.W.Write.contents l.out) (galley_from 1 (take l.before l.slugs))
