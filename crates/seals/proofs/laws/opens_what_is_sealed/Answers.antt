use Rattle.seals.proofs.Sealed.{opens_sealed}
use Rattle.seals.proofs.laws.opens_what_is_sealed.Goals as goal

pub returns : goal.returns
returns c = opens_sealed c.lengths.ensures
