-- One station starts again, and the others stay.
use Rattle.std.proofs.Common.{refl}
use Rattle.std.specs.Vec.{with_item}
use Rattle.protocol.specs.Circuit as circuit
use Rattle.station.specs.Stations.{sight}
use Rattle.world.specs.declared.step.Outcome.TheVariants as outcomes
use Rattle.world.specs.declared.step.Step.TheVariants as steps
use Rattle.world.proofs.Members.{shown}
use Rattle.world.proofs.Asking.{changed, unlogged}
use Rattle.world.proofs.Starting.{restart_at, restart_comes}
use Rattle.world.proofs.world.World.restart.Goals as goal

pub returns : goal.returns
returns g c =
    let x = sight g.R.Rows in
    let v = c.args.self.now in
    let s = c.index_mut.result.now in
    let s' = c.restart.new.self in
    let v' = record v { stations = with_item v.stations c.in_ok-place.place s' } in
    let o = c.in_ok-place.ensures in
    let ch = changed v v' c.in_ok-place.place c.args.member s s' o.place o.within c.index_mut.ensures.value refl in
    let e = c.restart.ensures in
    rw c.unsent.ensures (unlogged g.R.Rows (steps.Restart c.args.member) v v' c.in_ok-place.place c.args.member s s' outcomes.Restarted
    ch refl refl refl o.found refl (λ kept. rw e.starts at kept) (λ made. rw e.starts made) tt (λ kept z w h.
    let old = shown v v' c.in_ok-place.place c.args.member s s' ch x.is_open x.saved x.version z w h in
    let at = restart_at x.version (w.version c.args.member) s s' old.is_at e.wire e.starts in
    let comes = restart_comes x g.R.Rows.refusals z v v' w c.in_ok-place.place c.args.member s s' ch h at refl refl refl e.fixed e.starts e.stands in
    (comes.0, comes.1, circuit.Restarted, refl, comes.2)))
