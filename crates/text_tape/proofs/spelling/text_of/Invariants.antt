use Rattle.std.proofs.Common.{◌≡◌}
use Rattle.std.specs.Prelude.{flat_map}
use Rattle.code_table.specs.Tables.{mean}
use Rattle.slug_reader.specs.Positions.{before}
use Rattle.slug_reader.specs.Meanings.{case_at}
use Rattle.text_tape.specs.Spelling.{is_behind_unsaid, text_at}
use Rattle.text_tape.proofs.spelling.text_of.Given as goal

abbrev pub invariant-loop-i : goal.invariant-loop-i
invariant-loop-i l = record {
  case : l.case ≡ case_at (mean l.codes) l.frames l.i;
  behind : l.behind_unsaid ≡ is_behind_unsaid (mean l.codes) l.frames l.i;
  text : l.text.items ≡ flat_map (text_at (mean l.codes) l.frames) (before l.i);
}
