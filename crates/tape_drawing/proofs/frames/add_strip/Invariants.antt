use Rattle.std.proofs.Common.{◌≡◌, ◌+◌, ◌++◌}
use Rattle.std.specs.Prelude.{flat_map}
use Rattle.code_table.specs.Tables.{mean}
use Rattle.slug_reader.specs.Positions.{before}
use Rattle.slug_reader.specs.Meanings.{case_at}
use Rattle.tape_drawing.specs.Shapes.{text_of}
use Rattle.tape_drawing.specs.Frames.{frame_shapes}
use Rattle.tape_drawing.proofs.frames.add_strip.Given as goal

abbrev pub invariant-loop-k : goal.invariant-loop-k
invariant-loop-k l = record {
  case : l.case ≡ case_at (mean l.strip.table.now) l.strip.tape.now (l.strip.from + l.k);
  text : l.text.items ≡ l.initial.text.items ++ text_of (flat_map (frame_shapes (mean l.strip.table.now) l.strip.tape.now l.strip.from l.strip.frames l.strip.top) (before l.k));
}
