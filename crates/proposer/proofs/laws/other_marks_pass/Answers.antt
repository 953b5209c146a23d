-- Each mark, by its kind.
use Rattle.proposer.proofs.Standing.{others_pass}
use Rattle.proposer.proofs.laws.other_marks_pass.Goals as goal

pub returns : goal.returns
returns c = others_pass
