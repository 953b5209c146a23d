-- One member more; at the end all of them.
use Rattle.std.proofs.Common.{◌≡◌, ◌+◌, ℕ, suc, sym, ap, subst, ◌∙◌, arith, List, [], ◌∷◌, ◌++◌, length, rules, length-append}
use Rattle.std.proofs.lemmas.List.{map-id}
use Rattle.std.proofs.lemmas.Iterator.Adapters.{YieldsList-from_vec}
use Rattle.std.proofs.lemmas.Iterator.Consumers.{YieldsList-end}
use Rattle.protocol.specs.Seats.{sits}
use Rattle.rows_saved.specs.declared.balky.Balky.{Balky}
use Rattle.station.specs.declared.station.Station.{Station}
use Rattle.world.specs.Founding.{Part, IsNew, AreNew}
use Rattle.world.proofs.Founding.{more}
use Rattle.world.proofs.world.stations_of.Goals as goal

pub loop-table-preserved : goal.loop-table-preserved
loop-table-preserved g c =
    let parts : List (Part g.row.R.Denot) = c.loop-table.yielded in
    let part : Part g.row.R.Denot = (c.in-Some.table, c.in-Some.widths, c.in-Some.rows) in
    let stations : List (Station (Balky g.row.R.Denot)) = c.loop-table.stations.items in
    let station : Station (Balky g.row.R.Denot) = c.station_of-station.result in
    let longer : length (parts ++ part ∷ []) ≡ length parts + 1 = length-append parts (part ∷ []) in
    let pushed = c.in_ok-push.ensures.items in
    let so_many : length stations ≡ length parts = c.loop-table.invariant.count in
    let me : c.loop-table.me + 1 ≡ suc (length parts) = (let i = c.loop-table.invariant.me in omega (arith, i)) in
    let new : IsNew g.R.Rows.version (sits c.args.circuit (suc (length parts)) c.args.count) part station =
    subst (λ (m : ℕ). IsNew g.R.Rows.version (sits c.args.circuit m c.args.count) part station) me c.station_of-station.ensures in
    record {
      me = (let i = c.loop-table.invariant.me in omega (arith, longer, i));
      count = ap length pushed ∙ (length-append stations (station ∷ []) ∙ omega (arith, longer, so_many));
      new = subst (λ (ss : List (Station (Balky g.row.R.Denot))). AreNew g.R.Rows.version c.args.circuit c.args.count (parts ++ part ∷ []) ss) (sym pushed)
          (more g.R.Rows.version c.args.circuit c.args.count parts stations part station so_many c.loop-table.invariant.new new);
    }

pub returns-clause-new : goal.returns-clause-new
returns-clause-new g c =
    let road = YieldsList-from_vec {s = c.into_iter-table-iterator.result} c.args.members.items (search rules) (search rules) in
    let end = YieldsList-end road c.loop-table.yielded c.loop-table.table-iterator c.loop-table.yielded_by c.next.result c.next.new.self c.in-None.is c.next.ensures.steps in
    let all : c.loop-table.yielded ≡ c.args.members.items = sym (map-id c.loop-table.yielded) ∙ end.0 in
    subst (λ (ps : List (Part g.row.R.Denot)). AreNew g.R.Rows.version c.args.circuit c.args.count ps c.loop-table.stations.items) all c.loop-table.invariant.new
