use Rattle.tape_drawing.proofs.Framing.{in_order}
use Rattle.tape_drawing.proofs.laws.frames_in_order.Goals as goal

pub returns : goal.returns
returns c = in_order c.adds_up.ensures
