use Rattle.std.proofs.Common.{arith}
use Rattle.rows_life.proofs.looking.are_bytes.Goals as goal

pub returns : goal.returns
returns c = λ i low. omega (arith, c.type_inv.bytes i)
