use Rattle.std.proofs.Common.{◌+◌, ◌*◌, arith}
use Rattle.offers.proofs.Blocks.{widen}
use Rattle.offers.proofs.moments.first_of.Goals as goal

pub returns : goal.returns
returns c =
    widen c.args.moments.now (256 * c.args.block) (256 * c.args.block + c.min-many.result) (256 * c.args.block + 256) c.first_in.result (omega (arith, c.min-many.ensures)) (λ i from lt. omega (arith, c.min-many.ensures)) (c.first_in.ensures (omega arith))
