-- What comes next of all is done, and the numbers that it asks for are to be told.
use Rattle.std.proofs.Common.{Bool, subst}
use Rattle.plant_care.specs.Caring.{KeepsMissed}
use Rattle.plant_care.proofs.care.Care.next.Goals as goal

pub returns-clause-next : goal.returns-clause-next
returns-clause-next c = λ had.
    let between = c.next_of_all-errand.new.self in (
      between,
      c.next_of_all-errand.ensures.next,
      subst (λ (b : Bool). KeepsMissed (record between { had_turn = b }) c.keep_missed.new.self) c.is_some-self.ensures c.keep_missed.ensures,
    )
