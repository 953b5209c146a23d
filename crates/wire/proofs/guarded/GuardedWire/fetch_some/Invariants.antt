-- so far it stayed
use Rattle.wire.specs.Guarded.{Keeps}
use Rattle.wire.proofs.guarded.GuardedWire.fetch_some.Given as goal

abbrev pub invariant-loop : goal.invariant-loop
invariant-loop g l = Keeps g.S.Socket.came g.D.Door.brings l.fn.self l.self
