use Rattle.std.proofs.Common.{◌≡◌, ◌++◌, drop}
use Rattle.std.specs.Prelude.{map}
use Rattle.run_command.specs.Looking.{passed_over}
use Rattle.run_command.proofs.unseen.first_of.Given as goal

abbrev pub invariant-loop : goal.invariant-loop
invariant-loop l = record {
  all : l.first.items ++ map passed_over l.others.entries ≡ map passed_over l.initial.others.entries;
  left : l.others.entries ≡ drop l.counter l.initial.others.entries;
}
