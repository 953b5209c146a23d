-- The numbers so far are settled.
use Rattle.std.proofs.Common.{◌≡◌, take}
use Rattle.healing.specs.Cases.{settled}
use Rattle.healing.proofs.Settling.{AreChanged}
use Rattle.healing.proofs.healing.Healing.settle.Given as goal

abbrev pub invariant-loop-place : goal.invariant-loop-place
invariant-loop-place l = record {
  changed : AreChanged (settled l.now) (take l.place l.initial.self.recalled) l.initial.self.cases l.self.cases;
  rest : l.self ≡ record l.initial.self { cases = l.self.cases };
}
