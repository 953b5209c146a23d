use Rattle.line_check.proofs.Uniqueness as uniqueness
use Rattle.line_check.proofs.laws.one_setting.Goals as goal

pub returns : goal.returns
returns c = uniqueness.one_setting
