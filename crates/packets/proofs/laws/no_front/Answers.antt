use Rattle.packets.proofs.Unique.{no_front}
use Rattle.packets.proofs.laws.no_front.Goals as goal

pub returns : goal.returns
returns c = no_front c.packings.ensures
