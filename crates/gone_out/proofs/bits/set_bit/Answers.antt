use Rattle.std.proofs.Common.{◌/◌, arith}
use Rattle.std.proofs.lemmas.List.{get_or_read}
use Rattle.gone_out.proofs.Flags.{is_clear, flags-set}
use Rattle.gone_out.proofs.bits.set_bit.Goals as goal

pub returns-clause-new : goal.returns-clause-new
returns-clause-new c =
    is_clear c.args.words.now.items c.index-word.result.now c.args.n c.requires (get_or_read c.args.words.now.items (c.args.n / 64) _ (omega (arith, c.requires)) c.index-word.ensures 0)

pub returns-clause-set : goal.returns-clause-set
returns-clause-set c =
    flags-set c.args.words.now.items c.args.n c.index-word.result.now c.requires (get_or_read c.args.words.now.items (c.args.n / 64) _ (omega (arith, c.requires)) c.index-word.ensures 0)
