-- By the tag that the datagram bears.
use Rattle.process_days.proofs.Coming.{packets_came}
use Rattle.process_days.proofs.sealed.sealed_packets_came.Goals as goal

pub returns : goal.returns
returns g c = packets_came g.S.Socket.came
