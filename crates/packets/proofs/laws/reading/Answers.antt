use Rattle.packets.proofs.Taken.{packet_takes}
use Rattle.packets.proofs.Unique.{is_read}
use Rattle.packets.proofs.laws.reading.Goals as goal

pub returns-clause-again : goal.returns-clause-again
returns-clause-again c = is_read c.packings.ensures

pub returns-clause-found : goal.returns-clause-found
returns-clause-found c = packet_takes c.packings.ensures
