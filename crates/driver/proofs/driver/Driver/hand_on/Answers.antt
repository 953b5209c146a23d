-- What was saved is stored, the datagrams are sent, and the release is taken; or it can't be stored, and nothing is handed on.
use Rattle.std.proofs.Common.{rules, ◌≡◌, List, inl, refl, subst}
use Rattle.protocol.specs.Circuit.{Datagram}
use Rattle.wire.specs.Passing.{Passes}
use Rattle.driver.specs.Events.{sending}
use Rattle.driver.specs.Driving.{known, fate_of}
use Rattle.driver.proofs.Driven.{hands_on}
use Rattle.driver.proofs.driver.Driver.hand_on.Goals as goal

pub returns-in-Ok : goal.returns-in-Ok
returns-in-Ok g c =
    let old = c.args.self.now in
    let answer = c.args.step.now.answer in
    let sent = rw c.as_slice.ensures.value at c.send_all.ensures in
    record {
      hands = (refl, refl);
      on =
          hands_on (known g.R.Rows g.R.Settles.is_settled g.N.Wire.passed (fate_of g.S.Sink)) g.S.Sink.may g.met.S.Sink.fates answer old.station.now c.settle.new.self old.wire.now old.wire.now c.send_all.new.wire
          old.sink old.sink c.print.new.self c.print.result refl refl c.in-Ok.ensures sent c.print.ensures.ok c.print.ensures.err c.print.ensures.fault;
    }

pub returns-in-Err : goal.returns-in-Err
returns-in-Err g c = record {
  hands = (refl, refl);
  on = inl (record { unstored = (c.in-Err.refusal, c.in-Err.ensures, c.of_step.ensures); wire = refl; sink = refl });
}
