-- One number more is settled, and in the end all are.
use Rattle.std.proofs.Common.{ap, get_or, length, List, ℕ, ◌∙◌, arith}
use Rattle.healing.specs.Cases.{settled}
use Rattle.healing.specs.Healing.{HealingValue}
use Rattle.healing.proofs.Settling.{settled_twice, next_changed}
use Rattle.healing.proofs.healing.Healing.settle.Goals as goal

pub loop-place-preserved : goal.loop-place-preserved
loop-place-preserved c =
    let place = c.loop-place.place in
    let test = c.loop-place-test.true in
    let all = ap (λ (h : HealingValue). length h.recalled) c.self.view_is in
    record {
      changed = next_changed (settled c.args.now) (settled_twice c.args.now) c.args.self.now.recalled place _ _ _ _
          (omega (arith, test, c.len-place-end.ensures.value, all))
          (ap (λ (l : List ℕ). get_or l place 0)
          (c.deref.ensures.0 ∙ ap (λ (h : HealingValue). h.recalled) c.self-in-loop-place.view_is ∙ ap (λ (h : HealingValue). h.recalled) c.loop-place.invariant.rest))
          c.loop-place.invariant.changed c.settle_one.ensures.cases;
      rest = c.settle_one.ensures.rest ∙ ap (λ (h : HealingValue). record h { cases = c.settle_one.new.self.cases }) c.loop-place.invariant.rest;
    }
