-- A configuration that is none is a fault of an input.
use Rattle.commands.proofs.Faults.{no_rows}
use Rattle.commands.proofs.create_start.config_at.Goals as goal

pub returns-clause-given : goal.returns-clause-given
returns-clause-given c = record {
  ok = c.read_config.ensures.circuit;
  fault = no_rows c.read_config.result c.read_config.ensures.read.err;
}
