use Rattle.std.proofs.Common.{◌≡◌, ◌++◌, List, take, drop}
use Rattle.slug_reader.specs.declared.line.Line.{Line}
use Rattle.line_check.specs.Slugs.{AreSlugs}
use Rattle.line_check.specs.Spreading.{misfit_among}
use Rattle.line_check.proofs.tape.add_slugs.Given as goal

abbrev pub invariant-loop-line : goal.invariant-loop-line
invariant-loop-line l = record {
  slugs : (earlier : List Line) → AreSlugs l.widths earlier l.initial.slugs.items → AreSlugs l.widths (earlier ++ take l.line-index l.lines) l.slugs.items;
  rest : misfit_among l.widths (drop l.line-index l.lines) ≡ misfit_among l.widths l.lines;
}
