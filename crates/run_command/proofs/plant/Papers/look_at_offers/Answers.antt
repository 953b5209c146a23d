-- The offers were listed, or not.
use Rattle.std.proofs.Common.{refl}
use Rattle.run_command.proofs.Looking.{follows_same, looked_none}
use Rattle.run_command.proofs.plant.Papers.look_at_offers.Goals as goal

pub returns-in-Err : goal.returns-in-Err
returns-in-Err g c = looked_none _ _ _ _ c.list.ensures (follows_same _ _ refl)

pub returns-in-Some-Ok : goal.returns-in-Some-Ok
returns-in-Some-Ok g c = looked_none _ _ _ _ c.list.ensures c.see_ended.ensures

pub returns-in-Some-Err : goal.returns-in-Some-Err
returns-in-Some-Err g c = looked_none _ _ _ _ c.list.ensures (follows_same _ _ refl)

pub returns-in-None : goal.returns-in-None
returns-in-None g c = looked_none _ _ _ _ c.list.ensures (follows_same _ _ refl)
