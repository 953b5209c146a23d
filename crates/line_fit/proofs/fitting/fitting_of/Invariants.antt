use Rattle.std.proofs.Common.{◌≤◌, length}
use Rattle.std.specs.Prelude.{filter}
use Rattle.code_table.specs.Tables.{mean}
use Rattle.slug_reader.specs.Positions.{before}
use Rattle.slug_reader.specs.Lines.{is_cut}
use Rattle.line_fit.specs.Fitting.{AreFits}
use Rattle.line_fit.specs.Pending.{Stands}
use Rattle.line_fit.proofs.fitting.fitting_of.Given as goal

abbrev pub invariant-loop-at : goal.invariant-loop-at
invariant-loop-at l = record {
  within : l.at ≤ length l.frames;
  stands : Stands (mean l.table) l.fn.sizes l.frames l.at l.pending;
  fits : AreFits (mean l.table) l.fn.sizes l.frames (filter (is_cut (mean l.table) l.frames) (before l.at)) l.lines.items;
}
