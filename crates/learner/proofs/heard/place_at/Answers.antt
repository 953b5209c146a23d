-- The slot in hand is the first, or is passed.
use Rattle.std.proofs.Common.{sym, ◌∙◌, refl}
use Rattle.learner.proofs.Looking.{read, first_least, no_least}
use Rattle.learner.proofs.heard.place_at.Goals as goal

pub returns-then-is_at : goal.returns-then-is_at
returns-then-is_at c =
    let slot = read c.args.slots.now c.loop-place.place c.index-slots-place.result c.index-slots-place.result c.loop-place-test.true c.index-slots-place.is refl in
    (c.loop-place-test.true, slot ∙ first_least c.args.ballot c.args.slots.now c.loop-place.place c.index-slots-place.result c.loop-place-test.true c.loop-place.invariant slot (sym c.is_at.ensures ∙ c.if-is_at.true))

pub loop-place-preserved : goal.loop-place-preserved
loop-place-preserved c =
    no_least c.args.ballot c.args.slots.now c.loop-place.place c.index-slots-place.result c.loop-place-test.true c.loop-place.invariant
    (read c.args.slots.now c.loop-place.place c.index-slots-place.result c.index-slots-place.result c.loop-place-test.true c.index-slots-place.is refl) (sym c.is_at.ensures ∙ c.if-is_at.false)
