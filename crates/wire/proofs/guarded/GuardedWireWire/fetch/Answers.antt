-- Nothing is handed on.
use Rattle.wire.proofs.Guarding.{leaves_quiet}
use Rattle.wire.proofs.guarded.GuardedWireWire.fetch.Goals as goal

pub returns : goal.returns
returns g c = record { leaves = leaves_quiet g.S.Socket.came g.D.Door.brings c.args.self.now c.fetch_some.new.self c.fetch_some.ensures.keeps }
