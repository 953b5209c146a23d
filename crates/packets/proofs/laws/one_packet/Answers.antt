use Rattle.packets.proofs.Unique.{one_packet}
use Rattle.packets.proofs.laws.one_packet.Goals as goal

pub returns : goal.returns
returns c = one_packet c.packings.ensures
