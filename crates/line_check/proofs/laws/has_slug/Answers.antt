use Rattle.line_check.proofs.Existence as existence
use Rattle.line_check.proofs.laws.has_slug.Goals as goal

pub returns : goal.returns
returns c = existence.has_slug
