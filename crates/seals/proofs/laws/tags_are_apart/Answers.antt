use Rattle.seals.proofs.Sealed.{are_apart}
use Rattle.seals.proofs.laws.tags_are_apart.Goals as goal

pub returns : goal.returns
returns c = are_apart
