-- Member by member.
use Rattle.std.proofs.Common.{◌≡◌, sym, ◌∙◌, subst, arith, option_copied, length}
use Rattle.proposer.specs.Slots.{vote_at}
use Rattle.proposer.specs.Greatest.{IsGreatest}
use Rattle.proposer.proofs.Greatest.{takes, stays}
use Rattle.proposer.proofs.promises.greatest_vote.Goals.{then-is_above, else-is_above}
use Rattle.proposer.proofs.promises.greatest_vote.Goals as goal

pub loop-place-preserved : goal.loop-place-preserved
loop-place-preserved c =
    let reports = vote_at c.args.slots.now in
    elim c.if-is_above.branch [
      | then-is_above w ↦ rw (w.greatest-is) (takes reports c.loop-place.place _ _ c.loop-place.invariant (sym c.vote_of-report.ensures) (sym c.is_above.ensures ∙ w.if-is_above.true))
      | else-is_above w ↦ rw (w.greatest-is) (stays reports c.loop-place.place _ _ c.loop-place.invariant (sym c.vote_of-report.ensures) (sym c.is_above.ensures ∙ w.if-is_above.false))
    ]

pub returns : goal.returns
returns c =
    let all : c.loop-place.place ≡ length c.args.slots.now = omega arith in
    subst (λ i. IsGreatest (vote_at c.args.slots.now) i (option_copied c.loop-place.greatest)) all c.loop-place.invariant
