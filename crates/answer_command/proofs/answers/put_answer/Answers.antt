use Rattle.std.proofs.KnownBytes.{Appends-kept}
use Rattle.streams.proofs.Writing.{not_handed_on}
use Rattle.answer_command.proofs.answers.put_answer.Goals as goal

pub returns-in_err-hand_on-clause-writes : goal.returns-in_err-hand_on-clause-writes
returns-in_err-hand_on-clause-writes g c =
    not_handed_on _ _ _ _ c.from_residual-in_err-hand_on.ensures.0 (Appends-kept _ (g.W.Write.contents c.put_lines.new.out) _ _ (rw (c.deref.ensures.value, c.in_ok-lines.ensures) at c.in_ok-put_lines.ensures.ok) c.hand_on.ensures)
