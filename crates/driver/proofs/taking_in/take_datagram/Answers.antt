-- What came is taken in by one step of the station, unless it has the mark of recalls and rolls.
use Rattle.std.proofs.Common.{◌≡◌, ℕ, List, [], ◌∷◌, refl, subst}
use Rattle.wire.specs.Passing.{Passes, Trace, came}
use Rattle.station.specs.declared.station.Station.{Station}
use Rattle.driver.specs.Events.{HasMark}
use Rattle.driver.specs.TakingIn.{CameBeside}
use Rattle.rolls.specs.Asides.{aside_in}
use Rattle.rolls.specs.declared.aside.Aside.{Aside}
use Rattle.driver.proofs.taking_in.take_datagram.Goals as goal

-- what has the mark of recalls and rolls came, and was read
heard_so : {R N : Type 0} (passed : N → Trace) (s : Station R) (was is : N) (bytes : List ℕ) (found : Aside) → HasMark bytes
    → Passes (passed was) (passed is) (came bytes ∷ []) → found ≡ aside_in bytes → CameBeside passed s s was is found
heard_so passed s was is bytes found m p e = record {
  rest = m.0;
  same = refl;
  passes = subst (λ (l : List ℕ). Passes (passed was) (passed is) (came l ∷ [])) m.1 p;
  read = subst (λ (l : List ℕ). found ≡ aside_in l) m.1 e;
}

pub returns-in-Some : goal.returns-in-Some
returns-in-Some g c =
    let said = rw c.deref.ensures.value at c.in-Some.ensures in
    heard_so g.N.Wire.passed c.args.station.now c.args.wire.now c.receive.new.self c.in-Datagram.bytes.items c.in-Some.found said.0 c.in-Datagram.ensures.passes said.1
