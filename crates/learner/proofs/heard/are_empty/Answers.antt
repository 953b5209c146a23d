-- The slots so far are empty, and the one in hand is or isn't.
use Rattle.std.proofs.Common.{sym, ◌∙◌, refl}
use Rattle.learner.proofs.Looking.{read, not_empty, empty_more}
use Rattle.learner.proofs.heard.are_empty.Goals as goal

pub returns-then-has_vote : goal.returns-then-has_vote
returns-then-has_vote c =
    not_empty c.args.slots.now c.loop-slot.slot-index c.slot-item.result
    (read c.args.slots.now c.loop-slot.slot-index c.slot-item.result c.slot-item.result c.loop-slot-test.true c.slot-item.is refl) (sym c.has_vote.ensures ∙ c.if-has_vote.true)

pub loop-slot-preserved : goal.loop-slot-preserved
loop-slot-preserved c =
    empty_more c.args.slots.now c.loop-slot.slot-index c.slot-item.result c.loop-slot-test.true c.loop-slot.invariant
    (read c.args.slots.now c.loop-slot.slot-index c.slot-item.result c.slot-item.result c.loop-slot-test.true c.slot-item.is refl) (sym c.has_vote.ensures ∙ c.if-has_vote.false)
