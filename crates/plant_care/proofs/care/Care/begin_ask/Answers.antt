-- The range is asked for; or, without memory, what was asked for before still is.
use Rattle.std.proofs.Common.{inl, inr, refl}
use Rattle.plant_care.proofs.care.Care.begin_ask.Goals as goal

pub returns-in-Ok : goal.returns-in-Ok
returns-in-Ok c = (refl, inr (refl, refl, refl, c.in-Ok.ensures))

pub returns-in_default : goal.returns-in_default
returns-in_default c = (refl, inl refl)
