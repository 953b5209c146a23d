use Rattle.std.proofs.Common.{◌≡◌}
use Rattle.looks.specs.Merging.{fewer}
use Rattle.looks.proofs.merging.Merging.go_on.Given as goal

abbrev pub invariant-loop : goal.invariant-loop
invariant-loop l = l.self ≡ fewer l.counter l.initial.self
