use Rattle.seals.proofs.Sealed.{are_short, are_few}
use Rattle.seals.proofs.laws.short_and_few.Goals as goal

pub returns-clause-short : goal.returns-clause-short
returns-clause-short c = are_short c.lengths.ensures

pub returns-clause-few : goal.returns-clause-few
returns-clause-few c = are_few
