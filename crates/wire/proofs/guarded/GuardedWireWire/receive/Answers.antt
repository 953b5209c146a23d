-- What comes, behind what was waited for.
use Rattle.wire.proofs.Guarding.{comes_later, keeps_then, receives}
use Rattle.wire.proofs.guarded.GuardedWireWire.receive.Goals as goal

pub returns-then-not-await_one : goal.returns-then-not-await_one
returns-then-not-await_one g c = record {
  receives = record {
    comes = λ clean. tt;
    leaves = c.await_one.ensures;
  };
}

pub returns : goal.returns
returns g c =
    let came = g.S.Socket.came in
    let brings = g.D.Door.brings in
    let old = c.args.self.now in
    let comes = comes_later came brings old c.await_one.new.self c.take_next.result c.await_one.ensures.keeps c.take_next.ensures.comes in
    let keeps = keeps_then came brings old c.await_one.new.self c.take_next.new.self c.await_one.ensures.keeps c.take_next.ensures.leaves.keeps in
    record {
      receives = record {
        comes = comes;
        leaves = record { keeps = keeps; passes = receives came brings old c.take_next.new.self c.take_next.result comes keeps };
      };
    }
