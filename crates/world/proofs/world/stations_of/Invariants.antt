-- The members so far have their stations.
use Rattle.std.proofs.Common.{◌≡◌, length}
use Rattle.world.specs.Founding.{AreNew}
use Rattle.world.proofs.world.stations_of.Given as goal

abbrev pub invariant-loop-table : goal.invariant-loop-table
invariant-loop-table g l =
    record {
      me : l.me ≡ length l.yielded;
      count : length l.stations.items ≡ length l.yielded;
      new : AreNew g.R.Rows.version l.circuit l.count l.yielded l.stations.items;
    }
