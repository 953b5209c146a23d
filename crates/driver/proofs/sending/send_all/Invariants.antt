-- The datagrams sent so far.
use Rattle.std.proofs.Common.{take}
use Rattle.wire.specs.Passing.{Passes}
use Rattle.driver.specs.Events.{sending}
use Rattle.driver.proofs.sending.send_all.Given as goal

abbrev pub invariant-loop-datagram : goal.invariant-loop-datagram
invariant-loop-datagram g l = Passes (g.N.Wire.passed l.initial.wire) (g.N.Wire.passed l.wire) (sending (take l.datagram-index l.out))
