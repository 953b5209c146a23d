use Rattle.rolls.proofs.Again.{is_no_packet}
use Rattle.rolls.proofs.laws.is_no_packet.Goals as goal

pub returns : goal.returns
returns c = is_no_packet
