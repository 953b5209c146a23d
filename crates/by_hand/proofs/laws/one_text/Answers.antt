-- The lines are the only ones.
use Rattle.by_hand.proofs.Once.{one_text}
use Rattle.by_hand.proofs.laws.one_text.Goals as goal

pub returns : goal.returns
returns c = one_text
