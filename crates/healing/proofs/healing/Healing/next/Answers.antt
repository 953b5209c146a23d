-- What is due after some were left was so before.
use Rattle.std.proofs.Common.{List, ℕ, subst}
use Rattle.healing.specs.declared.case.LackedNumber.{LackedNumber}
use Rattle.healing.specs.Healing.{AreDueIn, IsHealing}
use Rattle.healing.proofs.Out.{none_out}
use Rattle.healing.proofs.Settling.{all_due}
use Rattle.healing.proofs.healing.Healing.next.Goals as goal

pub returns-clause-wanted : goal.returns-clause-wanted
returns-clause-wanted c =
    let fits = rw c.in-Some-2.is at c.in_ok-numbers.ensures.fits in
    let due = rw c.in-Some-2.is at c.in_ok-numbers.ensures.due in (
      subst (λ (cases : List (ℕ × LackedNumber)). AreDueIn cases c.args.now c.in-Some-2.numbers) (c.seek.ensures.none c.in_default.is)
          (all_due c.seek.new.self.cases c.settle.new.self.cases c.args.now c.settle.ensures.cases c.in-Some-2.numbers due),
      fits.0,
      fits.1,
      fits.2,
    )

pub returns-clause-out : goal.returns-clause-out
returns-clause-out c =
    none_out c.args.self.now c.args.now c.in-Some-2.numbers (subst IsHealing c.self.view_is c.self.invariant) (returns-clause-wanted c).0
