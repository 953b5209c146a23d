use Rattle.packets.proofs.Lengths.{lengths_are_bounded}
use Rattle.packets.proofs.laws.lengths.Goals as goal

pub returns : goal.returns
returns c = lengths_are_bounded c.packings.ensures
