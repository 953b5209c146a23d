use Rattle.catch_up_log.proofs.One.{one_text}
use Rattle.catch_up_log.proofs.laws.one_text.Goals as goal

pub returns : goal.returns
returns c = one_text
