use Rattle.tape_drawing.proofs.Boxes as boxes
use Rattle.tape_drawing.proofs.laws.boxes_add_up.Goals as goal

pub returns : goal.returns
returns c = boxes.boxes_add_up
