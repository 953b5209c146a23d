-- What waits, and then what comes.
use Rattle.wire.proofs.Guarding.{keeps_then, leaves_quiet}
use Rattle.wire.proofs.guarded.GuardedWire.await_one.Goals as goal

pub returns-then-not-is_empty : goal.returns-then-not-is_empty
returns-then-not-is_empty g c = leaves_quiet g.S.Socket.came g.D.Door.brings c.args.self.now c.fetch_some.new.self c.fetch_some.ensures.keeps

pub returns-else-not-is_empty : goal.returns-else-not-is_empty
returns-else-not-is_empty g c =
    leaves_quiet g.S.Socket.came g.D.Door.brings c.args.self.now c.take_one.new.self
    (keeps_then g.S.Socket.came g.D.Door.brings c.args.self.now c.fetch_some.new.self c.take_one.new.self c.fetch_some.ensures.keeps c.take_one.ensures.keeps)
