-- From the table of the turn, and from what was sent.
use Rattle.roll_laws.proofs.Closing.{nothing_is_reported}
use Rattle.roll_laws.proofs.laws.nothing_is_reported.Goals as goal

pub returns : goal.returns
returns g c = nothing_is_reported
