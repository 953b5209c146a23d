-- A number that is known, and whether it is free.
use Rattle.std.proofs.Common.{rules, refl, sym, subst, ◌∙◌}
use Rattle.node_core.specs.Standing.{Core, StandsFor}
use Rattle.station.proofs.Asking.{refused_released, refused_open, unrefused}
use Rattle.station.proofs.station.Station.check_number.Goals as goal

pub returns-then-released : goal.returns-then-released
returns-then-released g c = record {
  value = tt;
  checks = λ marks stands.
      let here = subst (λ (k : Core). StandsFor k marks) (sym c.core-core.ensures) stands in
      let range = c.in-Some.ensures.some.0 (search rules) in
      refused_released c.args.number marks range.0 range.1 c.in-Some.number c.in-Some.ensures.value c.released.result (c.released.ensures.value marks here) c.if-released.true;
  goes_on = refl;
}

pub returns-then-is_some : goal.returns-then-is_some
returns-then-is_some g c = record {
  value = tt;
  checks = λ marks stands.
      let here = subst (λ (k : Core). StandsFor k marks) (sym c.core-core.ensures) stands in
      let range = c.in-Some.ensures.some.0 (search rules) in
      refused_open c.args.number marks range.0 range.1 c.in-Some.number c.in-Some.ensures.value
      c.released.result (c.released.ensures.value marks here) c.if-released.false c.open_ballot.result (c.open_ballot.ensures.value marks here)
      (sym c.is_some.ensures ∙ c.if-is_some.true);
  goes_on = refl;
}

pub returns : goal.returns
returns g c = record {
  value = c.in-Some.ensures.value;
  checks = λ marks stands.
      let here = subst (λ (k : Core). StandsFor k marks) (sym c.core-core.ensures) stands in
      let range = c.in-Some.ensures.some.0 (search rules) in
      unrefused c.args.number marks range.0 range.1 c.in-Some.number c.in-Some.ensures.value
      c.released.result (c.released.ensures.value marks here) c.if-released.false c.open_ballot.result (c.open_ballot.ensures.value marks here)
      (sym c.is_some.ensures ∙ c.if-is_some.false);
  goes_on = tt;
}
