use Rattle.std.proofs.Common.{◌≡◌, drop}
use Rattle.std.specs.List.{position_from}
use Rattle.looks.specs.declared.sighting.Stray.{Stray}
use Rattle.looks.specs.Sightings.{is_ripe}
use Rattle.looks.proofs.strays.first_ripe.Given as goal

abbrev pub invariant-loop-place : goal.invariant-loop-place
invariant-loop-place l =
    let test : Stray → _ = λ s. is_ripe l.still l.looked s.sighting in
    position_from test l.from (drop l.from l.files) ≡ position_from test l.place (drop l.place l.files)
