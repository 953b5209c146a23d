use Rattle.recalls.proofs.Again.{one_recall}
use Rattle.recalls.proofs.laws.one_recall.Goals as goal

pub returns : goal.returns
returns c = one_recall
