use Rattle.std.proofs.Common.{refl}
use Rattle.tape_frames.specs.Packing.{three, four}
use Rattle.tape_frames.proofs.laws.seven_packed.Goals as goal

pub returns : goal.returns
returns c = four 1 2 3 1 4 32 193 _ _ refl (three 3 2 4 12 33 0 refl)
