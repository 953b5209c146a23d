use Rattle.code_chart.proofs.Marks as marks
use Rattle.code_chart.proofs.laws.frames_in_order.Goals as goal

pub returns : goal.returns
returns c = marks.in_order
