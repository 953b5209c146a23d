use Rattle.line_check.proofs.Uniqueness as uniqueness
use Rattle.line_check.proofs.laws.adds_up.Goals as goal

pub returns : goal.returns
returns c = uniqueness.adds_up
