use Rattle.healing.proofs.Agreeing.{case_tells_all}
use Rattle.healing.proofs.laws.lacking.Goals as goal

pub returns-clause-all : goal.returns-clause-all
returns-clause-all c = case_tells_all
