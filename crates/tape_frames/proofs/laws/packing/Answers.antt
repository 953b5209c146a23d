use Rattle.tape_frames.proofs.Packings.{one_packing, packed_length, packing_is_given, has_packing}
use Rattle.tape_frames.proofs.laws.packing.Goals as goal

pub returns-clause-some : goal.returns-clause-some
returns-clause-some c = has_packing

pub returns-clause-given : goal.returns-clause-given
returns-clause-given c = packing_is_given

pub returns-clause-one : goal.returns-clause-one
returns-clause-one c = one_packing

pub returns-clause-lengths : goal.returns-clause-lengths
returns-clause-lengths c = packed_length
