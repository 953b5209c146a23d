use Rattle.std.proofs.Common.{rules, ◌≡◌, inr, refl, Some, None, ◌∙◌}
use Rattle.acceptor_store.specs.StationRow.{station_in}
use Rattle.acceptor_store.proofs.IdentityLemmas.{same_station}
use Rattle.acceptor_store.proofs.opening.read_station.Goals as goal

pub returns : goal.returns
returns g c = record {
  stored = λ clean layout has. tt;
  refuses = λ clean layout has.
      let none : station_in c.in-Ok.stations.items ≡ None = search rules in
      inr (refl, same_station _ c.in-Ok.stations.items (c.in-Ok.ensures.listed clean layout has) ∙ none);
  unchanged = λ clean layout has. tt;
  rests = λ clean layout has. c.get_station.ensures.rests layout clean has;
  alone = c.get_station.ensures.alone;
  leaves = λ clean layout has. c.get_station.ensures.leaves layout clean has;
  clean = c.get_station.ensures.clean;
}

pub returns-in-Some : goal.returns-in-Some
returns-in-Some g c = record {
  stored = λ clean layout has.
      let some : station_in c.in-Ok.stations.items ≡ Some c.in-Some.station = search rules in
      same_station _ c.in-Ok.stations.items (c.in-Ok.ensures.listed clean layout has) ∙ some;
  refuses = λ clean layout has. tt;
  unchanged = λ clean layout has. c.in-Ok.ensures.unchanged layout clean has;
  rests = λ clean layout has. c.get_station.ensures.rests layout clean has;
  alone = c.get_station.ensures.alone;
  leaves = λ clean layout has. c.get_station.ensures.leaves layout clean has;
  clean = c.get_station.ensures.clean;
}

pub returns-in-Err : goal.returns-in-Err
returns-in-Err g c = record {
  stored = search rules;
  refuses = search rules;
  unchanged = search rules;
  rests = search rules;
  alone = search rules;
  leaves = λ clean layout has. c.get_station.ensures.leaves layout clean has;
  clean = search rules;
}
