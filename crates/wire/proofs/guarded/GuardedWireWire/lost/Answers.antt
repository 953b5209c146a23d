-- The count of what was lost begins again.
use Rattle.std.proofs.Common.{[], rules}
use Rattle.wire.specs.Guarded.{let_in}
use Rattle.wire.proofs.Staying.{stays_passes}
use Rattle.wire.proofs.Guarding.{lost_stays, waits_so}
use Rattle.wire.proofs.guarded.GuardedWireWire.lost.Goals as goal

pub returns-then-lost-eq0 : goal.returns-then-lost-eq0
returns-then-lost-eq0 g c =
    let Is = let_in g.S.Socket.came g.D.Door.brings c.args.self.now in
    let w = c.args.self.now.waiting in
    record {
      early = search rules;
      told = search rules;
      counted = search rules;
      shares = search rules;
      rest = search rules;
      passes =
          stays_passes Is Is w c.tell_lost-lost.new.self []
          (waits_so Is w (record w { lost = 0 }) c.tell_lost-lost.new.self c.tell_lost-lost.ensures.none (lost_stays Is w 0)) (λ clean. tt);
    }

pub returns : goal.returns
returns g c =
    let Is = let_in g.S.Socket.came g.D.Door.brings c.args.self.now in
    let w = c.args.self.now.waiting in
    record {
      early = search rules;
      told = search rules;
      counted = search rules;
      shares = search rules;
      rest = search rules;
      passes =
          stays_passes Is Is w c.tell_lost-lost.new.self []
          (waits_so Is w (record w { lost = 0 }) c.tell_lost-lost.new.self c.tell_lost-lost.ensures.none (lost_stays Is w 0)) (λ clean. tt);
    }
