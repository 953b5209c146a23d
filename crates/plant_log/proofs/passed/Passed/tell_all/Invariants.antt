use Rattle.std.proofs.Common.{take}
use Rattle.plant_log.specs.Telling.{TellsEach}
use Rattle.plant_log.specs.Passing.{IsPassingTold, passing_text}
use Rattle.plant_log.proofs.passed.Passed.tell_all.Given as goal

abbrev pub invariant-loop-each : goal.invariant-loop-each
invariant-loop-each g l = TellsEach (IsPassingTold l.self.kept l.now) passing_text (take l.each-index l.others) (g.E.Write.contents l.initial.err) (g.E.Write.contents l.err)
