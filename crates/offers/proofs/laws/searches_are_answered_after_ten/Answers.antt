-- What is kept in mind is what was found.
use Rattle.offers.proofs.Nothings.{answered_after_ten}
use Rattle.offers.proofs.laws.searches_are_answered_after_ten.Goals as goal

pub returns : goal.returns
returns c = answered_after_ten
