-- The numbers so far are recalled.
use Rattle.std.proofs.Common.{◌≡◌, ◌+◌, length, take}
use Rattle.healing.specs.declared.case.LackStage.TheVariants.{Recalled}
use Rattle.healing.specs.Cases.{with_stage}
use Rattle.healing.proofs.Settling.{AreChanged}
use Rattle.healing.proofs.healing.Healing.recall.Given as goal

abbrev pub invariant-loop-number : goal.invariant-loop-number
invariant-loop-number l = record {
  len : length l.self.recalled ≡ length l.initial.self.recalled + l.number-index;
  rest : l.self ≡ record l.initial.self { cases = l.self.cases; waiting = l.self.waiting; recalled = l.self.recalled };
  changed : AreChanged (with_stage (Recalled l.now)) (take l.number-index l.number-items) l.initial.self.cases l.self.cases;
}
