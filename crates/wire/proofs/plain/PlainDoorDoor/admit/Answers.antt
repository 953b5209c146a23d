-- What a plain door lets in.
use Rattle.wire.proofs.Staying.{admits_packet}
use Rattle.wire.proofs.plain.PlainDoorDoor.admit.Goals as goal

pub returns-in-Ok-clause-admits : goal.returns-in-Ok-clause-admits
returns-in-Ok-clause-admits c =
    admits_packet c.args.self.now.own c.args.self.now.stations.items c.args.sender c.in-Ok.member c.args.bytes.now c.packet_of.result c.in-Ok.ensures.from c.packet_of.ensures
