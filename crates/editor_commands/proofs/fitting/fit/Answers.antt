use Rattle.editor_commands.proofs.FitEnds.{fitted}
use Rattle.editor_commands.proofs.fitting.fit.Goals as goal

pub returns-in-Ok : goal.returns-in-Ok
returns-in-Ok g c = fitted _ c.in-Ok.faults _ _ _ c.end_by.ensures c.in-Ok.ensures.ok
