-- One station goes over, or its store refuses that; the others stay.
use Rattle.std.proofs.Common.{refl}
use Rattle.std.specs.Vec.{with_item}
use Rattle.station.specs.Stations.{sight}
use Rattle.world.specs.declared.step.Step.TheVariants as steps
use Rattle.world.proofs.Members.{kept_here}
use Rattle.world.proofs.Asking.{changed, unlogged}
use Rattle.world.proofs.GoingOver.{moves, tells_upgrade}
use Rattle.world.proofs.world.World.upgrade.Goals as goal

pub returns : goal.returns
returns g c =
    let x = sight g.R.Rows in
    let v = c.args.self.now in
    let s = c.index_mut.result.now in
    let s' = c.upgrade_station-outcome.new.station in
    let v' = record v { stations = with_item v.stations c.in_ok-place.place s' } in
    let o = c.in_ok-place.ensures in
    let ch = changed v v' c.in_ok-place.place c.args.member s s' o.place o.within c.index_mut.ensures.value refl in
    let outcome = c.upgrade_station-outcome.result in
    let e = c.upgrade_station-outcome.ensures in
    rw c.unsent.ensures (unlogged g.R.Rows (steps.Upgrade c.args.member) v v' c.in_ok-place.place c.args.member s s' outcome
    ch refl refl refl o.found refl e.was_kept e.made (tells_upgrade g.R.Rows v v' c.in_ok-place.place c.args.member s s' ch outcome e.takes)
    (λ kept z w h. moves x g.R.Rows.refusals z v v' w c.in_ok-place.place c.args.member s s' ch h refl refl refl outcome e.takes
    (kept_here v v' c.in_ok-place.place c.args.member s s' ch x.kept kept)))
