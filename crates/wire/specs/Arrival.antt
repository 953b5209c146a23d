-- What came.
use Rattle.std.specs.Prelude.{List, [], ◌∷◌}
use Rattle.wire.specs.declared.wire.Arrival.{Arrival}
use Rattle.wire.specs.declared.wire.Arrival.TheVariants as arrivals
use Rattle.wire.specs.Passing.{Passed, came}

-- what passes over a wire where this arrives
abbrev pub came_by : Arrival → List Passed
came_by arrivals.Nothing = []
came_by (arrivals.Datagram bytes) = came bytes.items ∷ []
came_by arrivals.Failed = []
