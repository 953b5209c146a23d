use Rattle.tape_frames.proofs.Packings.{one_unpacking, unpacking_undoes}
use Rattle.tape_frames.proofs.laws.unpacking.Goals as goal

pub returns-clause-undoes : goal.returns-clause-undoes
returns-clause-undoes c = unpacking_undoes

pub returns-clause-one : goal.returns-clause-one
returns-clause-one c = one_unpacking
