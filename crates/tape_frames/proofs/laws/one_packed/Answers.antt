use Rattle.tape_frames.proofs.Packings.{one_packed}
use Rattle.tape_frames.proofs.laws.one_packed.Goals as goal

pub returns : goal.returns
returns c = one_packed
