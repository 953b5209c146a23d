use Rattle.roll_call.proofs.Keeping.{passes}
use Rattle.roll_call.proofs.laws.passes_over.Goals as goal

pub returns : goal.returns
returns c = passes
