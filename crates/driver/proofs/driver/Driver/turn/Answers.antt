-- The clock was asked, and then the turn was taken.
use Rattle.std.proofs.Common.{[]}
use Rattle.driver.specs.Events.{ended}
use Rattle.driver.specs.Driving.{known, fate_of, post_of, IsTurn}
use Rattle.driver.proofs.Driven.{clocked}
use Rattle.driver.proofs.driver.Driver.turn.Goals as goal

pub returns : goal.returns
returns g c =
    record {
      hands = c.turn_at.ensures.hands;
      goes_on = c.turn_at.ensures.goes_on;
      done = clocked (known g.R.Rows g.R.Settles.is_settled g.N.Wire.passed (fate_of g.S.Sink)) g.S.Sink.may g.met.S.Sink.fates c.args.self.now.station.now c.args.self.now.wire.now c.now-now.new.self c.args.self.now.sink []
          (post_of c.turn_at.new.self) c.now-now.result (ended c.turn_at.result) IsTurn c.now-now.ensures.passes c.turn_at.ensures.done;
    }
