-- One page more is counted.
use Rattle.std.proofs.Common.{ℕ, List, length, ap, ◌∙◌}
use Rattle.std.specs.Prelude.{slice_index}
use Rattle.roll_call.specs.Held.{count_on}
use Rattle.roll_call.proofs.Counting.{on_le, set_more, with_many}
use Rattle.roll_call.proofs.held.counts_of.Goals as goal

pub loop-value-preserved : goal.loop-value-preserved
loop-value-preserved c =
    let votes = c.args.votes.now in
    let counts = c.loop-value.counts in
    let page = c.in-Some.page in
    record {
      many = ap (λ (l : List ℕ). length l) c.set.ensures ∙ with_many counts page c.count_on.result c.loop-value.invariant.many;
      each = λ p l.
          ap (λ (l : List ℕ). slice_index l p) c.set.ensures
          ∙ set_more (count_on votes) counts page c.loop-value.value c.count_on.result c.in-Some.ensures.value c.loop-value-test.true c.loop-value.invariant.many
          c.count_on.ensures.many (on_le votes page) c.loop-value.invariant.each p l;
    }
