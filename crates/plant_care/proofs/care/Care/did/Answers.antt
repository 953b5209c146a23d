-- What there was news of, what was told again, and what went out, one behind the other.
use Rattle.plant_care.proofs.care.Care.did.Goals as goal

pub returns : goal.returns
returns c = (c.hear_step.new.self, c.hear_ask.new.self, c.count_told.new.self, c.hear_step.ensures, c.hear_ask.ensures, c.count_told.ensures, c.hear_release.ensures)
