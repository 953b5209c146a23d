use Rattle.std.proofs.Common.{◌≡◌, ◌++◌, take}
use Rattle.std.specs.Prelude.{flat_map}
use Rattle.code_table.specs.Tables.{mean}
use Rattle.reel_commands.specs.Survey.{tape_lines}
use Rattle.reel_commands.proofs.survey_text.put_all_lines.Given as goal

abbrev pub invariant-loop-surveyed : goal.invariant-loop-surveyed
invariant-loop-surveyed l = l.text.items ≡ l.initial.text.items ++ flat_map (tape_lines (mean l.table) l.frame) (take l.surveyed-index l.tapes)
