-- so far the socket took them, or it did not take one
use Rattle.std.proofs.Common.{◌≡◌, true}
use Rattle.sealed_door.specs.Admitting.{TookFirst}
use Rattle.sealed_door.proofs.sending.send_parts.Given as goal

abbrev pub invariant-loop-index : goal.invariant-loop-index
invariant-loop-index g l = l.all ≡ true → TookFirst (g.S.Socket.given l.socket) l.to l.key l.label l.packet l.index
