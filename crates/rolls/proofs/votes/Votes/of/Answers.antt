use Rattle.gone_out.specs.Numbers.{has}
use Rattle.rolls.proofs.Flags.{votes_made}
use Rattle.rolls.proofs.votes.Votes.of.Goals as goal

pub invariant_of-result : goal.invariant_of-result
invariant_of-result c =
    votes_made c.args.page c.get.result c.from-first.result c.bits_of.result.items (has c.args.numbers.now) c.get.ensures.below c.get.ensures.value
    c.from-first.ensures c.bits_of.ensures.many c.bits_of.ensures.small c.bits_of.ensures.bits
