use Rattle.std.proofs.Common.{◌≡◌, None}
use Rattle.code_table.specs.Tables.{mean}
use Rattle.slug_reader.specs.Positions.{before, first}
use Rattle.text_tape.specs.Codes.{is_meant, if_so}
use Rattle.text_tape.proofs.codes.frame_of.Given as goal

abbrev pub invariant-loop-frame : goal.invariant-loop-frame
invariant-loop-frame l = first (λ f. if_so (is_meant l.meaning (mean l.table l.case f)) f) (before l.frame) ≡ None
