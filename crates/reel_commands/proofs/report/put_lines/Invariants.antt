use Rattle.std.proofs.Common.{◌≡◌, ◌++◌, take}
use Rattle.reel_commands.specs.Report.{lines_from}
use Rattle.reel_commands.proofs.report.put_lines.Given as goal

abbrev pub invariant-loop-before : goal.invariant-loop-before
invariant-loop-before l = l.text.items ≡ l.initial.text.items ++ lines_from 1 (take l.before l.tapes)
