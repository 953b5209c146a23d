-- By the cases of a step.
use Rattle.protocol_laws.proofs.Tearing.{armed_stores_save_nothing}
use Rattle.protocol_laws.proofs.laws.armed_stores_save_nothing.Goals as goal

pub returns : goal.returns
returns g c = armed_stores_save_nothing
