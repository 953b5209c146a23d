-- So far nothing changed but what is known of the numbers that went out, and the plant asks on its own as before.
use Rattle.std.proofs.Common.{◌≡◌}
use Rattle.plant_care.proofs.care.Care.leave_all.Given as goal

abbrev pub invariant-loop-number : goal.invariant-loop-number
invariant-loop-number l = record { rest : l.self ≡ record l.initial.self { catch_up = l.self.catch_up }; asks : l.self.catch_up.asks ≡ l.initial.self.catch_up.asks }
