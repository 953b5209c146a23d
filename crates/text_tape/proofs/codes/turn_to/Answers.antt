use Rattle.std.proofs.Common.{sym, arith}
use Rattle.code_table.specs.Tables.{mean}
use Rattle.slug_reader.specs.Meanings.{selected_by}
use Rattle.text_tape.specs.Codes.{is_case}
use Rattle.text_tape.proofs.Lists.{none_more}
use Rattle.text_tape.proofs.Finding.{turn_found, turn_none}
use Rattle.text_tape.proofs.codes.turn_to.Goals as goal

pub returns-then-is_turn : goal.returns-then-is_turn
returns-then-is_turn c =
    sym (turn_found (mean c.args.table.now) c.args.case c.loop-turn.turn c.loop-turn.invariant (sym c.if-is_turn.ensures) c.loop-turn-test.true)

pub loop-turn-preserved : goal.loop-turn-preserved
loop-turn-preserved c =
    none_more (λ f. is_case c.args.case (selected_by (mean c.args.table.now) f)) c.loop-turn.turn c.loop-turn.invariant (sym c.if-is_turn.ensures)

pub returns : goal.returns
returns c = sym (turn_none (mean c.args.table.now) c.args.case c.loop-turn.turn (omega arith) c.loop-turn.invariant)
