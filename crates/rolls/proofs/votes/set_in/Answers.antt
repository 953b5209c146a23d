-- One place more.
use Rattle.std.proofs.Common.{◌≡◌, ◌≤◌, ◌+◌, ℕ, refl, ap, ◌∙◌, arith}
use Rattle.rolls.specs.Votes.{set_below}
use Rattle.rolls.proofs.Flags.{at_most_one, set_below-le, set_more}
use Rattle.rolls.proofs.votes.set_in.Goals as goal

pub loop-place-init : goal.loop-place-init
unfolding set_below
loop-place-init c = refl

pub overflow_add-count : goal.overflow_add-count
overflow_add-count c =
    let so : c.loop-place.count ≡ set_below c.args.bytes.now c.loop-place.place = c.loop-place.invariant in
    let low : set_below c.args.bytes.now c.loop-place.place ≤ c.loop-place.place = set_below-le c.args.bytes.now c.loop-place.place in
    let turn = c.loop-place-test.true in
    let one : c.from-count.result ≤ 1 = at_most_one c.from-count.result c.has_bit.result c.from-count.ensures in
    omega (arith, so, low, turn, one)

pub loop-place-preserved : goal.loop-place-preserved
loop-place-preserved c =
    ap (λ (n : ℕ). n + c.from-count.result) c.loop-place.invariant
    ∙ set_more c.args.bytes.now c.loop-place.place c.from-count.result c.has_bit.result c.has_bit.ensures c.from-count.ensures
