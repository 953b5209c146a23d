use Rattle.line_check.proofs.Uniqueness as uniqueness
use Rattle.line_check.proofs.laws.no_slug.Goals as goal

pub returns : goal.returns
returns c = uniqueness.no_slug
