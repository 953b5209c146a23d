use Rattle.std.proofs.Common.{◌≡◌, suc, ◌+◌, ◌≤◌}
use Rattle.code_table.specs.Tables.{mean}
use Rattle.slug_reader.specs.Meanings.{case_at}
use Rattle.slug_reader.proofs.Numbers.{counted}
use Rattle.slug_reader.proofs.line_numbers.line_at.Given as goal

abbrev pub invariant-loop-place : goal.invariant-loop-place
invariant-loop-place l = record {
  case : l.case ≡ case_at (mean l.table) l.frame-items l.place;
  line : l.line ≡ suc (counted (mean l.table) l.frame-items l.at l.place);
  small : l.line ≤ l.place + 1;
}
