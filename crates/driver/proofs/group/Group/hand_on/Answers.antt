-- One step more is sent, behind those before it.
use Rattle.std.proofs.Common.{◌≡◌, ◌<◌, ◌+◌, ℕ, List, [], ◌∷◌, ◌++◌, length, take, get_or, sym, subst, ap, ◌∙◌, append-nil}
use Rattle.std.proofs.lemmas.List.{take_more}
use Rattle.std.proofs.lemmas.Grind.{flat_map-append}
use Rattle.wire.specs.Passing.{Passed, Passes, Trace}
use Rattle.wire.proofs.Passing.{Passes-then}
use Rattle.driver.specs.Driving.{sends, sending_of}
use Rattle.driver.specs.declared.sink.TakenStep.{TakenStep}
use Rattle.driver.proofs.group.Group.hand_on.Goals as goal

one_more : {N : Type 0} (passed : N → Trace) (was mid is : N) (steps : List TakenStep) (i : ℕ) (d : TakenStep) → i < length steps → d ≡ get_or steps i d
    → Passes (passed was) (passed mid) (sends (take i steps)) → Passes (passed mid) (passed is) (sending_of d) → Passes (passed was) (passed is) (sends (take (i + 1) steps))
one_more passed was mid is steps i d low at before p =
    subst (λ (l : List Passed). Passes (passed was) (passed is) l)
    (sym (ap sends (take_more steps i d low) ∙ flat_map-append sending_of (take i steps) (get_or steps i d ∷ [])
    ∙ ap (λ (l : List Passed). sends (take i steps) ++ l) (append-nil (sending_of (get_or steps i d))) ∙ ap (λ (x : TakenStep). sends (take i steps) ++ sending_of x) (sym at)))
    (Passes-then (passed was) (passed mid) (passed is) (sends (take i steps)) (sending_of d) before p)

pub loop-step-preserved : goal.loop-step-preserved
loop-step-preserved g c =
    let sent = rw c.as_slice.ensures.value at c.send_all.ensures in
    one_more g.N.Wire.passed c.args.wire.now c.loop-step.wire c.send_all.new.wire c.deref-step-items.result.now c.loop-step.step-index c.step-item.result
    c.loop-step-test.true c.step-item.is c.loop-step.invariant sent
