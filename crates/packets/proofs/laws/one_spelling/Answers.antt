use Rattle.packets.proofs.Written.{has_one, packet_is}
use Rattle.packets.proofs.laws.one_spelling.Goals as goal

pub returns-clause-fits : goal.returns-clause-fits
returns-clause-fits c = has_one c.packings.ensures

pub returns-clause-only : goal.returns-clause-only
returns-clause-only c = packet_is
