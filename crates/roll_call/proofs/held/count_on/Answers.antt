-- One place more.
use Rattle.std.proofs.Common.{◌≡◌, ◌≤◌, ℕ, ◌+◌, ◌*◌, sym, ap, subst, ◌∙◌, arith, ◌&&◌}
use Rattle.protocol.specs.Limits.{is_number}
use Rattle.gone_out.specs.Numbers.{has}
use Rattle.rolls.specs.Pages.{numbers_on}
use Rattle.roll_call.specs.Held.{count_below, count_on}
use Rattle.roll_call.proofs.Counting.{at, none_below, on_le, one_more, no_more}
use Rattle.roll_call.proofs.held.count_on.Goals.{then-is_vote, else-is_vote}
use Rattle.roll_call.proofs.held.count_on.Goals as goal

pub loop-place-init : goal.loop-place-init
loop-place-init c = record { many = sym (none_below c.args.votes.now c.args.page); few = omega arith }

pub loop-place-preserved : goal.loop-place-preserved
loop-place-preserved c =
    let votes = c.args.votes.now in
    let place = c.loop-place.place in
    let low = c.loop-place.invariant.few in
    let page : c.from.result ≡ c.args.page = c.from.ensures ∙ c.get.ensures.value in
    let here : c.is_vote.result ≡ at votes c.args.page place =
    subst (λ (p : ℕ). c.is_vote.result ≡ (is_number (8192 * p + place) && has votes (8192 * p + place))) page c.is_vote.ensures in
    elim c.if-is_vote.branch [
      | then-is_vote w ↦
          let is = w.count-is in
          let true_here = sym here ∙ w.if-is_vote.true in
          record {
            many = w.count-is ∙ ap (λ (k : ℕ). k + 1) c.loop-place.invariant.many ∙ sym (one_more votes c.args.page place true_here);
            few = omega (arith, is, low);
          }
      | else-is_vote w ↦
          let is = w.count-is in
          let false_here = sym here ∙ w.if-is_vote.false in
          record {
            many = w.count-is ∙ c.loop-place.invariant.many ∙ sym (no_more votes c.args.page place false_here);
            few = omega (arith, is, low);
          }
    ]

pub returns-clause-fits : goal.returns-clause-fits
returns-clause-fits c =
    let within = c.loop-place.auto.place-end in
    let past = c.loop-place-test.false in
    let all : c.loop-place.place ≡ 8192 = omega (arith, within, past) in
    let many : c.loop-place.count ≡ count_on c.args.votes.now c.args.page = c.loop-place.invariant.many ∙ ap (λ (k : ℕ). count_below c.args.votes.now c.args.page k) all in
    subst (λ (k : ℕ). k ≤ numbers_on c.args.page) (sym many) (on_le c.args.votes.now c.args.page)
