-- Who is promised takes no vote below.
use Rattle.roll_laws.proofs.Above.{later_choices_are_above}
use Rattle.roll_laws.proofs.laws.later_choices_are_above.Goals as goal

pub returns : goal.returns
returns g c = later_choices_are_above
