use Rattle.draw_command.proofs.charting.chart.Goals as goal

pub returns : goal.returns
returns g c = c.charted.ensures _ c.end_with.ensures
