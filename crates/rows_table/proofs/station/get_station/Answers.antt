use Rattle.std.proofs.Common.{[], subst, sym, Vec}
use Rattle.sqlite.specs.Listing.{understood}
use Rattle.sqlite.proofs.Callers.{IsPlain}
use Rattle.std.specs.declared.alloc.Global.{Global}
use Rattle.sqlite_value.specs.Order.{Row}
use Rattle.sqlite.specs.Held.{state}
use Rattle.rows_table.proofs.PutClauses.{query_rests, query_left}
use Rattle.rows_table.proofs.StateLemmas.{shown_same}
use Rattle.rows_table.proofs.ReadTexts.{station_text, station_is}
use Rattle.rows_table.proofs.StationLemmas.{stations}
use Rattle.rows_table.proofs.AllLemmas.{mapped, on_ok}
use Rattle.rows_table.proofs.station.get_station.Goals as goal

pub returns : goal.returns
returns g c =
    let old = state g.S.Store c.args.conn.now in
    let new = state g.S.Store c.query_all.new.self in
    let gives = c.query_all.ensures in
    let r = c.query_all.result in
    record {
      listed = λ clean layout has. mapped (λ v h. stations layout old new v.items has h) r (gives.ok clean);
      unchanged = λ layout clean has. on_ok (λ v h. shown_same station_text [] old new v.items (subst (λ s. IsPlain (understood s station_text)) (sym has) (station_is layout).plain) h) r (gives.ok clean);
      rests = λ layout clean has still. query_rests layout (λ (v : Vec Row Global). v.items) station_text [] old new (station_is layout).plain has still r (gives.ok clean) (gives.err clean);
      leaves = λ layout clean has. query_left layout station_text [] old new (station_is layout).plain has gives.survives clean;
      alone = gives.mode;
      clean = gives.survives.clean;
    }
