use Rattle.std.proofs.Common.{arith}
use Rattle.seals.proofs.Bits.{same_more}
use Rattle.seals.proofs.bytes.is_same.Goals as goal

pub bytes-preserved : goal.bytes-preserved
bytes-preserved c = same_more c.bytes.changed c.bytes.i c.args.tag.now c.args.other.now (omega arith) (omega arith) c.bytes.invariant
