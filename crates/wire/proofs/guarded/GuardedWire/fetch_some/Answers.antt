-- Each that is taken, behind those before it.
use Rattle.wire.specs.Guarded.{Keeps}
use Rattle.wire.proofs.Guarding.{keeps_then, keeps_to}
use Rattle.wire.proofs.guarded.GuardedWire.fetch_some.Goals.{else-loop-test, then-loop-test+then-is_err-2}
use Rattle.wire.proofs.guarded.GuardedWire.fetch_some.Goals as goal

pub loop-preserved : goal.loop-preserved
loop-preserved g c =
    keeps_then g.S.Socket.came g.D.Door.brings c.args.self.now c.loop.self c.take_one.new.self c.loop.invariant c.take_one.ensures.keeps

pub returns : goal.returns
returns g c = record {
  keeps = elim c.loop-test.branch as (λ _. Keeps g.S.Socket.came g.D.Door.brings c.args.self.now c.loop-test.self) [
    | else-loop-test w ↦ keeps_to g.S.Socket.came g.D.Door.brings c.args.self.now c.loop.self c.loop-test.self w.self-is c.loop.invariant
    | then-loop-test+then-is_err-2 w ↦
        keeps_to g.S.Socket.came g.D.Door.brings c.args.self.now w.take_one.new.self c.loop-test.self w.self-is
        (keeps_then g.S.Socket.came g.D.Door.brings c.args.self.now c.loop.self w.take_one.new.self c.loop.invariant w.take_one.ensures.keeps)
  ];
}
