-- One number more is kept, or it is not.
use Rattle.std.proofs.Common.{ap, ◌∙◌, List, ℕ, get_or}
use Rattle.healing.specs.Cases.{sought_in}
use Rattle.healing.specs.Healing.{case_in}
use Rattle.healing.proofs.OneMore.{kept_next, few_more}
use Rattle.healing.proofs.lists.still_sought.Goals as goal

pub loop-number-preserved : goal.loop-number-preserved
loop-number-preserved c =
    let cases = c.args.cases.now.entries in
    let index = c.loop-number.number-index in
    let kept = c.loop-number.kept.items in
    let keeps = c.is_sought-keeps.result in
    record {
      few = rw c.add_if.ensures (few_more keeps kept _ index c.loop-number.invariant.few);
      all = rw c.add_if.ensures
          (kept_next (λ n. sought_in (case_in cases n)) c.args.numbers.now.items kept index _ keeps (rw c.as_slice-number-items.ensures.value at c.loop-number-test.true)
          (ap (λ (l : List ℕ). get_or l index 0) c.as_slice-number-items.ensures.value)
          (c.is_sought-keeps.ensures ∙ ap sought_in c.case_of.ensures) c.loop-number.invariant.all);
    }
