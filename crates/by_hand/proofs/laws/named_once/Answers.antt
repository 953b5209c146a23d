-- Each number stands in one line.
use Rattle.by_hand.proofs.Once.{named_once}
use Rattle.by_hand.proofs.laws.named_once.Goals as goal

pub returns : goal.returns
returns c = named_once
