-- One number more is not to be sought.
use Rattle.std.proofs.Common.{◌≤◌, refl}
use Rattle.protocol.specs.Limits.{last_number}
use Rattle.healing.specs.Cases.{ripe_in}
use Rattle.healing.specs.Healing.{case_in}
use Rattle.healing.proofs.OneMore.{not_next}
use Rattle.healing.proofs.ripe.first_ripe.Goals as goal

pub loop-number-preserved : goal.loop-number-preserved
loop-number-preserved c =
    not_next (λ n. (1 ≤ n) × (n ≤ last_number)) (λ n. ripe_in (case_in c.args.cases.now.entries n) c.args.now) c.args.numbers.now c.loop-number.number-index _
    c.loop-number-test.true refl (λ h. c.in_default.ensures.none refl h.0 h.1) c.loop-number.invariant
