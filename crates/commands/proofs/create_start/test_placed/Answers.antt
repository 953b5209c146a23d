-- A file that stands where it may not is a fault of an input.
use Rattle.commands.proofs.Faults.{no_rows}
use Rattle.commands.proofs.create_start.test_placed.Goals as goal

pub returns-clause-given : goal.returns-clause-given
returns-clause-given c = record {
  ok = c.test_places.ensures.placed.ok;
  fault = no_rows c.test_places.result c.test_places.ensures.placed.err;
}

pub returns-clause-stands : goal.returns-clause-stands
returns-clause-stands c = c.test_places.ensures.placed
