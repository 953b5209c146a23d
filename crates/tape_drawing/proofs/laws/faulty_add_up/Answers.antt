use Rattle.tape_drawing.proofs.Boxes as boxes
use Rattle.tape_drawing.proofs.laws.faulty_add_up.Goals as goal

pub returns : goal.returns
returns c = boxes.faulty_add_up
