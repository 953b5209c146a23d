-- One file after the other, until none is left.
use Rattle.std.proofs.Common.{refl, true}
use Rattle.run_command.proofs.Looking.{follows_same, settles_departs, settles_none, settles_then}
use Rattle.run_command.proofs.plant.Papers.leave_all.Goals as goal

pub loop-init : goal.loop-init
loop-init g c = record { settles = settles_none _ _ _ _ refl (follows_same _ _ refl) }

pub loop-preserved : goal.loop-preserved
loop-preserved g c = record {
  settles = settles_then _ _ _ _ _ _ c.loop.invariant.settles (settles_departs _ _ true c.in-Some.departure _ _ c.leave.ensures c.in-Some.ensures);
}

pub returns-in_default : goal.returns-in_default
returns-in_default g c = c.loop.invariant.settles
