-- At first none waits.
use Rattle.std.proofs.Common.{rules, refl, sym, subst}
use Rattle.wire.specs.Doors.{NoneWaits}
use Rattle.wire.proofs.Staying.{none_waits}
use Rattle.wire.proofs.guarded.GuardedWire+C+D+UdpSocket.behind.Goals as goal

pub returns : goal.returns
returns g c = record { door = refl; moment = refl; waits = subst NoneWaits (sym c.in_ok-waiting.ensures) (none_waits c.count_of.result); room = search rules }
