use Rattle.line_check.proofs.Existence as existence
use Rattle.line_check.proofs.laws.has_setting.Goals as goal

pub returns : goal.returns
returns c = existence.has_setting
