-- So few votes are no majority at any ballot; else a majority stands at the vote in hand, or it is passed.
use Rattle.std.proofs.Common.{ap, sym, ◌∙◌, Some, None, option_map, option_copied}
use Rattle.protocol.specs.Rows.{Vote}
use Rattle.learner.specs.Slots.{ripe_in}
use Rattle.learner.proofs.Fewness.{too_few}
use Rattle.learner.proofs.Looking.{read, tested_ripe, first_ripe, no_ripe, empty_slot}
use Rattle.learner.proofs.heard.chosen_at.Goals.{in-Some+else-majority, in_default}
use Rattle.learner.proofs.heard.chosen_at.Goals as goal

pub returns-then-not-majority : goal.returns-then-not-majority
returns-then-not-majority c =
    ap (option_map (λ (v : Vote). v.ballot))
    (sym (too_few c.lent-slots.result.now c.count_votes.result c.majority.result c.majority.ensures.more_than_half c.count_votes.ensures c.if-not-majority.true) ∙ ap ripe_in c.lent-slots.ensures.value)

pub returns-then-majority : goal.returns-then-majority
returns-then-majority c =
    ap Some c.ballot-ballot.ensures
    ∙ ap (option_map (λ (v : Vote). v.ballot))
    (sym (first_ripe c.lent-slots.result.now c.loop-slot.slot-index c.in-Some.vote.now c.loop-slot-test.true c.loop-slot.invariant
    (read c.lent-slots.result.now c.loop-slot.slot-index c.slot-item.result (Some c.in-Some.vote.now) c.loop-slot-test.true c.slot-item.is (sym c.vote.ensures ∙ ap option_copied c.in-Some.is))
    (tested_ripe c.lent-slots.result.now c.in-Some.vote.now c.ballot-ballot.result c.count_at.result c.majority-in-Some.result c.majority-in-Some.ensures.more_than_half c.count_at.ensures c.ballot-ballot.ensures ∙ c.if-majority.true)) ∙ ap ripe_in c.lent-slots.ensures.value)

pub loop-slot-preserved : goal.loop-slot-preserved
loop-slot-preserved c = elim c.match-vote.branch [
  | in-Some+else-majority w ↦
      no_ripe c.lent-slots.result.now c.loop-slot.slot-index w.in-Some.vote.now c.loop-slot-test.true c.loop-slot.invariant
      (read c.lent-slots.result.now c.loop-slot.slot-index c.slot-item.result (Some w.in-Some.vote.now) c.loop-slot-test.true c.slot-item.is (sym c.vote.ensures ∙ ap option_copied w.in-Some.is))
      (tested_ripe c.lent-slots.result.now w.in-Some.vote.now w.ballot-ballot.result w.count_at.result w.majority-in-Some.result w.majority-in-Some.ensures.more_than_half w.count_at.ensures w.ballot-ballot.ensures ∙ w.if-majority.false)
  | in_default w ↦
      empty_slot c.lent-slots.result.now c.loop-slot.slot-index c.loop-slot-test.true c.loop-slot.invariant
      (read c.lent-slots.result.now c.loop-slot.slot-index c.slot-item.result None c.loop-slot-test.true c.slot-item.is (sym c.vote.ensures ∙ ap option_copied w.in_default.is))
]
