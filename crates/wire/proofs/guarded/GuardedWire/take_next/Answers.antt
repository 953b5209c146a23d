-- What is taken was let in.
use Rattle.std.proofs.Common.{refl}
use Rattle.wire.specs.Doors.{ComesAs}
use Rattle.wire.specs.Guarded.{IsClean, Keeps, let_in}
use Rattle.wire.specs.declared.wire.Arrival.TheVariants as arrivals
use Rattle.wire.proofs.Staying.{take_is, take_stays}
use Rattle.wire.proofs.Guarding.{leaves_quiet, receives}
use Rattle.wire.proofs.guarded.GuardedWire.take_next.Goals as goal

pub returns-in-Some : goal.returns-in-Some
returns-in-Some g c =
    let came = g.S.Socket.came in
    let brings = g.D.Door.brings in
    let old = c.args.self.now in
    let new = record old { waiting = c.take.new.self } in
    let datagram = c.in-Some.datagram in
    let keeps : Keeps came brings old new = take_stays (let_in came brings old) c.take.result old.waiting c.take.new.self c.take.ensures in
    let comes : IsClean came brings old → ComesAs (let_in came brings old) (arrivals.Datagram datagram.bytes) = λ all. (
      datagram,
      take_is (let_in came brings old) c.take.result datagram old.waiting c.take.new.self c.take.ensures c.in-Some.is all,
      refl,
    ) in
    record {
      comes = comes;
      leaves = record { keeps = keeps; passes = receives came brings old new (arrivals.Datagram datagram.bytes) comes keeps };
    }

pub returns-in-None : goal.returns-in-None
returns-in-None g c =
    let came = g.S.Socket.came in
    let brings = g.D.Door.brings in
    let old = c.args.self.now in
    let new = record old { waiting = c.take.new.self } in
    record {
      comes = λ clean. tt;
      leaves = leaves_quiet came brings old new (take_stays (let_in came brings old) c.take.result old.waiting c.take.new.self c.take.ensures);
    }
