-- From the table of the turn.
use Rattle.roll_laws.proofs.Marking.{begun_were_ahead}
use Rattle.roll_laws.proofs.laws.begun_ballots_were_ahead.Goals as goal

pub returns : goal.returns
returns g c = begun_were_ahead
