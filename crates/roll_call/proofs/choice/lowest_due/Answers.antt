-- The lowest page of one member more.
use Rattle.std.proofs.Common.{◌+◌, sym, subst, ◌∙◌}
use Rattle.roll_call.specs.Asks.{IsLowestDue}
use Rattle.roll_call.proofs.Lowest.{no_lower, lower_here}
use Rattle.roll_call.proofs.choice.lowest_due.Goals.{then-is_lower, else-is_lower}
use Rattle.roll_call.proofs.choice.lowest_due.Goals as goal

pub loop-place-preserved : goal.loop-place-preserved
loop-place-preserved c =
    let own = c.args.own.now in
    let now = c.args.now in
    let ts = c.args.tellers.now in
    let place = c.loop-place.place in
    let page = c.in-Some.page in
    let some = sym c.page_due.ensures ∙ c.in-Some.is in
    elim c.if-is_lower.branch [
      | then-is_lower w ↦
          subst (IsLowestDue own now ts (place + 1)) (sym w.lowest-is)
          (lower_here own now ts place page c.loop-place.lowest some (sym c.is_lower.ensures ∙ w.if-is_lower.true) c.loop-place.invariant)
      | else-is_lower w ↦
          subst (IsLowestDue own now ts (place + 1)) (sym w.lowest-is)
          (no_lower own now ts place page c.loop-place.lowest some (sym c.is_lower.ensures ∙ w.if-is_lower.false) c.loop-place.invariant)
    ]
