use Rattle.std.proofs.Common.{◌≡◌, ◌++◌}
use Rattle.std.specs.Prelude.{flat_map}
use Rattle.code_table.specs.Tables.{mean}
use Rattle.slug_reader.specs.Positions.{before}
use Rattle.reel_commands.specs.Survey.{frame_text_of}
use Rattle.reel_commands.proofs.survey_text.put_frames.Given as goal

abbrev pub invariant-loop-frame : goal.invariant-loop-frame
invariant-loop-frame l = l.text.items ≡ l.initial.text.items ++ flat_map (frame_text_of (mean l.survey.table) l.survey.widths l.survey.tapes.items) (before l.frame)
