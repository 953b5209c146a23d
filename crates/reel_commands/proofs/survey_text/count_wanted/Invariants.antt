use Rattle.std.proofs.Common.{◌≡◌, ◌≤◌}
use Rattle.std.specs.Prelude.{count_by}
use Rattle.code_table.specs.Tables.{mean}
use Rattle.slug_reader.specs.Positions.{before}
use Rattle.reel_commands.specs.Survey.{is_wanted}
use Rattle.reel_commands.proofs.survey_text.count_wanted.Given as goal

abbrev pub invariant-loop-frame : goal.invariant-loop-frame
invariant-loop-frame l = record {
  value : l.wanted ≡ count_by (is_wanted (mean l.survey.table) l.survey.widths l.survey.tapes.items) (before l.frame);
  few : l.wanted ≤ l.frame;
}
