use Rattle.recalls.proofs.Written.{lengths_are_given}
use Rattle.recalls.proofs.laws.lengths.Goals as goal

pub returns : goal.returns
returns c = lengths_are_given
