-- Nothing is answered to the station itself.
use Rattle.std.proofs.Common.{◌≡◌, IfSome, subst}
use Rattle.roll_call.specs.RollCall.{RollCallValue}
use Rattle.roll_call.proofs.Waiting.{take_apart, take_still}
use Rattle.roll_call.proofs.roll_call.RollCall.take.Goals as goal

pub invariant_of-self : goal.invariant_of-self
invariant_of-self c = take_still c.self.inside.own.member c.args.now c.take.result c.self.inside.answers c.take.new.self c.self.invariant c.take.ensures

pub returns-clause-apart : goal.returns-clause-apart
returns-clause-apart c =
    subst (λ (v : RollCallValue). IfSome c.take.result (λ p. ¬ (p.1 ≡ v.own.member))) c.self.view_is
    (take_apart c.self.inside.own.member c.args.now c.take.result c.self.inside.answers c.take.new.self c.self.invariant c.take.ensures)
