-- In the end all numbers of the range were looked at.
use Rattle.std.proofs.Common.{rules, ◌+◌, ◌∙◌, Bool, not, ap}
use Rattle.std.specs.Prelude.{◌&&◌}
use Rattle.gone_out.specs.Numbers.{has}
use Rattle.by_hand.proofs.Walks.{same_range}
use Rattle.by_hand.proofs.scan.missing.Goals as goal

pub returns : goal.returns
returns c = λ n.
    c.loop-place.invariant.added n
    ∙ ap (λ (b : Bool). b && not (has c.args.numbers.now n))
    (same_range c.args.first c.loop-place.place (c.args.last + 1) n (search rules) (search rules))
