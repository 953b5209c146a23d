use Rattle.std.proofs.Common.{◌≡◌}
use Rattle.code_table.specs.Tables.{mean}
use Rattle.slug_reader.specs.Meanings.{case_at}
use Rattle.text_tape.proofs.Read.{read_to}
use Rattle.text_tape.proofs.plain.spell_plainly.Given as goal

abbrev pub invariant-loop-frame : goal.invariant-loop-frame
invariant-loop-frame l = record {
  case : l.case ≡ case_at (mean l.table) l.frames l.frame-index;
  text : l.text.items ≡ read_to (mean l.table) l.frames l.frame-index;
}
