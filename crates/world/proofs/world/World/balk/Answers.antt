-- One station's store is armed, and the others stay.
use Rattle.std.proofs.Common.{◌≡◌, ◌∙◌, refl, sym, ap, subst, Some}
use Rattle.std.specs.Vec.{with_item}
use Rattle.protocol.specs.Circuit as circuit
use Rattle.rows_saved.specs.declared.balky.Balky.{Balky}
use Rattle.station.specs.Stations.{sight}
use Rattle.world.specs.declared.step.Outcome.TheVariants as outcomes
use Rattle.world.specs.declared.step.Step.TheVariants as steps
use Rattle.world.proofs.Members.{shown}
use Rattle.world.proofs.Asking.{changed, unlogged}
use Rattle.world.proofs.Starting.{balk_at, balk_comes}
use Rattle.world.proofs.world.World.balk.Goals as goal

pub returns : goal.returns
returns g c =
    let x = sight g.R.Rows in
    let v = c.args.self.now in
    let s = c.index_mut.result.now in
    let s' = record s { rows = c.arm.new.self } in
    let v' = record v { stations = with_item v.stations c.in_ok-place.place s' } in
    let o = c.in_ok-place.ensures in
    let ch = changed v v' c.in_ok-place.place c.args.member s s' o.place o.within c.index_mut.ensures.value refl in
    let armed : c.arm.new.self ≡ record s.rows { armed = Some c.args.saved } =
    c.arm.ensures ∙ ap (λ (r : Balky g.row.R.Denot). record r { armed = Some c.args.saved }) c.rows_mut.ensures.value in
    let same : c.arm.new.self.rows ≡ s.rows.rows = ap (λ (r : Balky g.row.R.Denot). r.rows) armed in
    rw c.unsent.ensures (unlogged g.R.Rows (steps.Balk c.args.member c.args.saved) v v' c.in_ok-place.place c.args.member s s' (outcomes.Armed c.args.saved)
    ch refl refl refl o.found refl
    (λ kept. subst (λ (r : g.row.R.Denot). g.R.Rows.kept r) same kept) (λ made. subst (λ (r : g.row.R.Denot). g.R.Rows.made r) (sym same) made) tt (λ kept z w h.
    let is = ap (λ (r : Balky g.row.R.Denot). record s { rows = r }) armed in
    let old = shown v v' c.in_ok-place.place c.args.member s s' ch x.is_open x.saved x.version z w h in
    let at = balk_at x.version (w.version c.args.member) c.args.saved s s' old.is_at is in
    let comes = balk_comes x g.R.Rows.refusals z v v' w c.in_ok-place.place c.args.member s s' ch h at refl refl refl c.args.saved is in
    (comes.0, comes.1, circuit.Armed c.args.saved, refl, comes.2)))
