use Rattle.answer_command.proofs.Ends.{answered}
use Rattle.answer_command.proofs.answers.answered.Goals as goal

pub returns : goal.returns
returns g c =
    answered c.args.order.seat c.put_answer.result _ _ _ _ c.in_ok-bytes.ensures.ok (rw c.deref.ensures.value at c.put_answer.ensures.writes) c.put_answer.ensures.fault
