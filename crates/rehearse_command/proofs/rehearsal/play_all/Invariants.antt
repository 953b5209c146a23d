-- What is shown on the stage is written.
use Rattle.rehearse_command.specs.Rehearsals.{Inputs, IsSetUpBy, IsStaged}
use Rattle.rehearse_command.proofs.rehearsal.play_all.Given as goal

abbrev pub invariant-loop-index : goal.invariant-loop-index
invariant-loop-index g l = (by : Inputs) → IsSetUpBy by (l.setting.table.now, l.setting.widths.now) → IsStaged by (g.W.Write.contents l.initial.out) (g.W.Write.contents l.out) l.stage
