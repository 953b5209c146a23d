-- One part after the other; or the first waits for its turn.
use Rattle.std.proofs.Common.{refl}
use Rattle.run_command.proofs.Looking.{follows_same, follows_then}
use Rattle.run_command.proofs.plant.Papers.see_ended.Goals as goal

pub returns-then-is_crowded : goal.returns-then-is_crowded
returns-then-is_crowded g c = follows_same _ _ refl

pub returns : goal.returns
returns g c =
    follows_then _ _ _ c.see_next.ensures (follows_then _ _ _ c.see_next-2.ensures (follows_then _ _ _ c.see_next-3.ensures (follows_then _ _ _ c.see_next-4.ensures c.see_next-5.ensures)))
