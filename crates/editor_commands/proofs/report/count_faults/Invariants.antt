use Rattle.std.proofs.Common.{◌≡◌, ◌≤◌, take}
use Rattle.std.specs.Prelude.{count_by}
use Rattle.editor_commands.specs.Report.{is_faulty}
use Rattle.editor_commands.proofs.report.count_faults.Given as goal

abbrev pub invariant-loop-line : goal.invariant-loop-line
invariant-loop-line l = record {
  value : l.faults ≡ count_by is_faulty (take l.line-index l.lines);
  few : l.faults ≤ l.line-index;
}
