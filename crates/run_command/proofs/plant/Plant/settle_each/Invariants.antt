-- What the steps so far released was settled.
use Rattle.run_command.specs.Living.{SettlesWritten}
use Rattle.run_command.proofs.plant.Plant.settle_each.Given as goal

abbrev pub invariant-loop-step : goal.invariant-loop-step
invariant-loop-step g l = record {
  settled : SettlesWritten (g.F.Folders.doings l.initial.folders) (g.F.Folders.doings l.folders) l.initial.self l.self;
}
