use Rattle.std.proofs.Common.{sym, ◌∙◌}
use Rattle.rows_saved.specs.Memory.{saved}
use Rattle.streams.proofs.Writing.{front_written}
use Rattle.answer_command.proofs.Loop.{texts, standing_at, starts, skips, goes_on, stops, unanswered}
use Rattle.answer_command.proofs.answers.put_lines.Goals as goal
use Rattle.answer_command.proofs.answers.put_lines.Goals.{then-not-is_blank+in_ok-text+in_ok-put_text, else-not-is_blank}

pub loop-line-init : goal.loop-line-init
loop-line-init g c = (c.at-rows.ensures.version, starts _ _ _ (saved c.at-rows.result) (texts c.args.lines.now) _ c.at-rows.ensures.blank)

pub returns-in_err-put_text : goal.returns-in_err-put_text
returns-in_err-put_text g c =
    let at = standing_at _ _ _ _ c.args.lines.now c.loop-line.line-index _ _ _ c.loop-line-test.true c.loop-line.invariant.1 in
    front_written c.from_residual-in_err-put_text.result _ _ _ c.from_residual-in_err-put_text.ensures.0 (stops c.acceptor_steps.ensures _ _ _ (saved c.loop-line.rows) (texts c.args.lines.now) _ _ _ _ _ (sym c.is_blank.ensures ∙ c.if-not-is_blank.true) at (rw c.in_ok-text.ensures.text at c.in_err-put_text.ensures.err))

pub returns-in_err-text : goal.returns-in_err-text
returns-in_err-text g c =
    let at = standing_at _ _ _ _ c.args.lines.now c.loop-line.line-index _ _ _ c.loop-line-test.true c.loop-line.invariant.1 in
    front_written c.from_residual.result _ _ _ c.from_residual.ensures.0 (unanswered c.acceptor_steps.ensures _ _ _ (saved c.loop-line.rows) (texts c.args.lines.now) _ _ _ _ (sym c.is_blank.ensures ∙ c.if-not-is_blank.true) at)

pub loop-line-preserved : goal.loop-line-preserved
loop-line-preserved g c =
    let at = standing_at _ _ _ _ c.args.lines.now c.loop-line.line-index _ _ _ c.loop-line-test.true c.loop-line.invariant.1 in
    elim c.if-not-is_blank.branch [
      | then-not-is_blank+in_ok-text+in_ok-put_text w ↦ rw (w.out-is, w.rows-is) (w.answer_line.ensures.version ∙ c.loop-line.invariant.0, goes_on c.acceptor_steps.ensures _ _ _ (saved c.loop-line.rows) (saved w.answer_line.new.rows) (texts c.args.lines.now) _ _ _ _ _ (sym c.is_blank.ensures ∙ w.if-not-is_blank.true) at (rw w.in_ok-text.ensures.text at w.in_ok-put_text.ensures.ok) w.in_ok-text.ensures.rows)
      | else-not-is_blank w ↦ rw (w.out-is, w.rows-is) (c.loop-line.invariant.0, skips _ _ _ _ (texts c.args.lines.now) _ _ _ _ (sym c.is_blank.ensures ∙ w.if-not-is_blank.false) at)
    ]
