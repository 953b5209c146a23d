use Rattle.recalls.proofs.Again.{is_no_packet}
use Rattle.recalls.proofs.laws.is_no_packet.Goals as goal

pub returns : goal.returns
returns c = is_no_packet
