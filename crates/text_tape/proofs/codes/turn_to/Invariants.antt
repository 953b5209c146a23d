use Rattle.std.proofs.Common.{◌≡◌, None}
use Rattle.code_table.specs.Tables.{mean}
use Rattle.slug_reader.specs.Positions.{before, first}
use Rattle.slug_reader.specs.Meanings.{selected_by}
use Rattle.text_tape.specs.Codes.{is_case, if_so}
use Rattle.text_tape.proofs.codes.turn_to.Given as goal

abbrev pub invariant-loop-turn : goal.invariant-loop-turn
invariant-loop-turn l = first (λ f. if_so (is_case l.case (selected_by (mean l.table) f)) f) (before l.turn) ≡ None
