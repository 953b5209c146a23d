-- The steps lead on from the fresh state.
use Rattle.world.proofs.plays.play.Goals as goal

pub returns-in-Ok-clause-plays : goal.returns-in-Ok-clause-plays
returns-in-Ok-clause-plays g c = λ blank kept at are_at z of. c.run-run.ensures.runs kept z _ (c.in-Ok.ensures.fresh blank at are_at z of)
