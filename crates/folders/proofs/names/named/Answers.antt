-- Where nothing is found all kinds were looked for.
use Rattle.std.proofs.Common.{arith}
use Rattle.folders.proofs.NameEnds.{names_none}
use Rattle.folders.proofs.names.named.Goals as goal

pub returns-clause-else_none : goal.returns-clause-else_none
returns-clause-else_none c = names_none c.args.name.now c.loop-kind.kind-index (omega arith) c.loop-kind.invariant
