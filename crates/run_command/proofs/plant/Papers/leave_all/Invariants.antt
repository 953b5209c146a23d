-- The files of the number so far left the offers.
use Rattle.run_command.specs.Working.{Settles}
use Rattle.run_command.proofs.plant.Papers.leave_all.Given as goal

abbrev pub invariant-loop : goal.invariant-loop
invariant-loop g l = record {
  settles : Settles (g.F.Folders.doings l.initial.folders) (g.F.Folders.doings l.folders) l.initial.self.book l.self.book;
}
