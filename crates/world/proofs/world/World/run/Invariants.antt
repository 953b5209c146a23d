-- The steps so far lead to the state that the world stands for.
use Rattle.std.proofs.Common.{take}
use Rattle.world.specs.Setups.{StationCircuit, StationState}
use Rattle.world.specs.Taking.{Takes}
use Rattle.world.specs.Reach.{AllKept, AllMade, StandsFor, Leads}
use Rattle.world.proofs.world.World.run.Given as goal

abbrev pub invariant-loop-at : goal.invariant-loop-at
invariant-loop-at g l =
    record {
      takes : Takes g.R.Rows l.fn.self (take l.at l.steps) l.self;
      was_kept : AllKept g.R.Rows.kept l.self → AllKept g.R.Rows.kept l.fn.self;
      made : AllMade g.R.Rows.made l.fn.self → AllMade g.R.Rows.made l.self;
      runs : AllKept g.R.Rows.kept l.self → (z : StationCircuit) (w : StationState) → StandsFor g.R.Rows.is_open g.R.Rows.saved g.R.Rows.version z l.fn.self w
          → (after : StationState) × StandsFor g.R.Rows.is_open g.R.Rows.saved g.R.Rows.version z l.self after × Leads z w (take l.at l.steps) after;
    }
