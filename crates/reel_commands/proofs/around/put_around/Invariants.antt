use Rattle.std.proofs.Common.{◌≡◌, ◌++◌}
use Rattle.code_table.specs.Tables.{mean}
use Rattle.slug_reader.specs.Meanings.{case_at}
use Rattle.reel_commands.proofs.Near.{near_to}
use Rattle.reel_commands.proofs.around.put_around.Given as goal

abbrev pub invariant-loop-at : goal.invariant-loop-at
invariant-loop-at l = record {
  case : l.case ≡ case_at (mean l.table) l.tape l.at;
  text : l.text.items ≡ l.initial.text.items ++ near_to (mean l.table) l.tape l.place l.at;
}
