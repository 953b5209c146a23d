-- Nothing else changes but what is to be told.
use Rattle.std.proofs.Common.{◌≡◌}
use Rattle.plant_care.proofs.care.Care.keep_missed.Given as goal

abbrev pub invariant-loop-value : goal.invariant-loop-value
invariant-loop-value l = record { rest : l.self ≡ record l.initial.self { missed = l.self.missed; lacked = l.self.lacked } }
