-- A packet goes out, and what came meanwhile waits.
use Rattle.wire.proofs.Guarding.{door_then, sends_on}
use Rattle.wire.proofs.guarded.GuardedWireWire.send.Goals as goal

pub returns-clause-leaves : goal.returns-clause-leaves
returns-clause-leaves g c =
    let keeps = door_then g.S.Socket.came g.D.Door.brings c.args.self.now c.send-is_sent.new.self c.fetch_some.new.self c.send-is_sent.ensures.alike c.fetch_some.ensures.keeps in
    record { keeps = keeps; passes = sends_on g.S.Socket.came g.D.Door.brings c.args.self.now c.fetch_some.new.self c.args.to c.args.bytes.now keeps }
