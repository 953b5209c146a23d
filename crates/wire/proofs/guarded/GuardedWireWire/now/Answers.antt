-- The moment alone changes.
use Rattle.wire.specs.Guarded.{Keeps, let_in}
use Rattle.wire.proofs.Staying.{stays_self}
use Rattle.wire.proofs.Guarding.{keeps_to, tells}
use Rattle.wire.proofs.guarded.GuardedWireWire.now.Goals.{in-Ok, in_default}
use Rattle.wire.proofs.guarded.GuardedWireWire.now.Goals as goal

pub returns-clause-passes : goal.returns-clause-passes
returns-clause-passes g c =
    let still = stays_self (let_in g.S.Socket.came g.D.Door.brings c.args.self.now) c.args.self.now.waiting in
    tells g.S.Socket.came g.D.Door.brings c.args.self.now c.match-elapsed.self c.match-elapsed.self.moment
    (elim c.match-elapsed.branch as (λ _. Keeps g.S.Socket.came g.D.Door.brings c.args.self.now c.match-elapsed.self) [
      | in-Ok w ↦ keeps_to g.S.Socket.came g.D.Door.brings c.args.self.now _ c.match-elapsed.self w.self-is still
      | in_default w ↦ keeps_to g.S.Socket.came g.D.Door.brings c.args.self.now c.args.self.now c.match-elapsed.self w.self-is still
    ])
