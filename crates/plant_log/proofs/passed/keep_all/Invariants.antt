use Rattle.plant_log.specs.Passing.{Remembers}
use Rattle.plant_log.proofs.passed.keep_all.Given as goal

abbrev pub invariant-loop-each : goal.invariant-loop-each
invariant-loop-each l = Remembers l.kept l.now l.yielded l.initial.next l.next
