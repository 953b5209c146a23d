use Rattle.healing.proofs.Agreeing.{left_knows, left_stays}
use Rattle.healing.proofs.laws.left_knows_no_new_voter.Goals as goal

pub returns-clause-knows : goal.returns-clause-knows
returns-clause-knows c = left_knows

pub returns-clause-stays : goal.returns-clause-stays
returns-clause-stays c = left_stays
