use Rattle.draw_command.proofs.drawing.draw.Goals as goal

pub returns : goal.returns
returns g c = c.drawn.ensures _ c.end_with.ensures
