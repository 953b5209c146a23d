use Rattle.tape_frames.proofs.Packings.{tapes_are_packed, packed_are_tapes}
use Rattle.tape_frames.proofs.laws.packed.Goals as goal

pub returns-clause-tapes : goal.returns-clause-tapes
returns-clause-tapes c = tapes_are_packed

pub returns-clause-are_tapes : goal.returns-clause-are_tapes
returns-clause-are_tapes c = packed_are_tapes
