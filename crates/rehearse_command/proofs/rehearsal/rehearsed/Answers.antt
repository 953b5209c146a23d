-- The members are set up by the inputs.
use Rattle.rehearse_command.specs.Rehearsals.{inputs}
use Rattle.rehearse_command.proofs.rehearsal.rehearsed.Goals as goal

pub returns : goal.returns
returns g c = c.play_all.ensures (inputs (g.R.Read.remaining c.args.order.table) (g.R.Read.remaining c.args.order.widths)) (c.in_ok-table.ensures.ok, c.in_ok-widths.ensures.ok)
