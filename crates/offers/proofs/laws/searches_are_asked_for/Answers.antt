-- Each passes few over.
use Rattle.offers.proofs.Fair.{searches_are_asked_for}
use Rattle.offers.proofs.laws.searches_are_asked_for.Goals as goal

pub returns : goal.returns
returns c = searches_are_asked_for
