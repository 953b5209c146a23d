use Rattle.healing.proofs.Sets.{are_sets}
use Rattle.healing.proofs.laws.voters_are_sets.Goals as goal

pub returns : goal.returns
returns c = are_sets
