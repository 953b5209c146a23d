use Rattle.std.proofs.Common.{refl}
use Rattle.gone_out.proofs.Flags.{bit_is}
use Rattle.gone_out.proofs.bits.has_bit.Goals as goal

pub returns : goal.returns
returns c = bit_is c.args.words.now _ c.args.n c.requires refl
