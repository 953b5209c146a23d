use Rattle.std.proofs.Common.{◌≡◌, ◌+◌, ◌≤◌, ◌++◌, take}
use Rattle.editor_commands.specs.Report.{rows_from}
use Rattle.editor_commands.proofs.Rows.{slugs_among}
use Rattle.editor_commands.proofs.report.put_rows.Given as goal

abbrev pub invariant-loop-before : goal.invariant-loop-before
invariant-loop-before l = record {
  text : l.text.items ≡ l.initial.text.items ++ rows_from 1 1 (take l.before l.lines);
  slug : l.slug ≡ 1 + slugs_among (take l.before l.lines);
  few : l.slug ≤ l.before + 1;
}
