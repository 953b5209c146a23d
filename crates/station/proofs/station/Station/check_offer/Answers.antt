-- A number that is asked for, and whether its entry fits.
use Rattle.std.proofs.Common.{rules, refl}
use Rattle.station.proofs.Asking.{refused_number, offer_fits, offer_too_old, check_handed_on}
use Rattle.station.proofs.station.Station.check_offer.Goals as goal

pub returns-in_err-number-clause-asked : goal.returns-in_err-number-clause-asked
returns-in_err-number-clause-asked g c = record {
  value = search rules;
  checks = λ marks stands.
      check_handed_on _ c.from_residual.result _ c.from_residual.ensures
      (refused_number c.args.self.now.speaker.wire c.args.number _ marks _ (c.in_err-number.ensures.checks marks stands));
  goes_on = search rules;
}

pub returns-then-not-has_spelling-clause-asked : goal.returns-then-not-has_spelling-clause-asked
returns-then-not-has_spelling-clause-asked g c = record {
  value = tt;
  checks = λ marks stands.
      offer_too_old c.args.self.now.speaker.wire c.args.number marks _ c.has_spelling.result c.has_spelling.ensures (c.in_ok-number.ensures.checks marks stands) c.if-not-has_spelling.true;
  goes_on = refl;
}

pub returns-clause-asked : goal.returns-clause-asked
returns-clause-asked g c = record {
  value = c.in_ok-number.ensures.value;
  checks = λ marks stands.
      offer_fits c.args.self.now.speaker.wire c.args.number marks _ c.has_spelling.result c.has_spelling.ensures (c.in_ok-number.ensures.checks marks stands) c.if-not-has_spelling.false;
  goes_on = tt;
}
