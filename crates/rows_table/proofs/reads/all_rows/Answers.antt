use Rattle.std.proofs.Common.{[], Vec, subst, sym}
use Rattle.sqlite.specs.Listing.{understood}
use Rattle.sqlite.proofs.Callers.{IsPlain}
use Rattle.std.specs.declared.alloc.Global.{Global}
use Rattle.sqlite_value.specs.Order.{Row}
use Rattle.sqlite.specs.Held.{state}
use Rattle.rows_table.specs.Layouts.{all_text}
use Rattle.rows_table.proofs.StateLemmas.{shown_same}
use Rattle.rows_table.proofs.ReadTexts.{all_is}
use Rattle.rows_table.proofs.AllLemmas.{lists, mapped, on_ok}
use Rattle.rows_table.proofs.RisingLemmas.{opens}
use Rattle.rows_table.proofs.PutClauses.{IsSettled, query_serves, query_kept, query_open, query_crash, query_answers, query_rests, query_left}
use Rattle.rows_table.proofs.reads.all_rows.Goals as goal

pub returns : goal.returns
returns g c =
    let layout = c.args.layout in
    let text = all_text layout in
    let plain = (all_is layout).plain in
    let old = state g.S.Store c.args.conn.now in
    let new = state g.S.Store c.query_all.new.self in
    let items = λ (v : Vec Row Global). v.items in
    let ok = rw c.all_text.ensures at c.query_all.ensures.ok in
    let err = rw c.all_text.ensures at c.query_all.ensures.err in
    let survives = rw c.all_text.ensures at c.query_all.ensures.survives in
    let law_old : IsSettled old = λ db. g.met.S.Store.settled c.args.conn.now.store db in
    let r = c.query_all.result in
    record {
      listed = λ clean has. mapped (λ v h. lists layout old new v.items has h) r (ok clean);
      reads = record {
        serving = record {
          serves = λ serves. query_serves layout text [] old new plain serves law_old survives items r ok err;
          opened = λ serves. query_open layout text [] old new plain serves law_old survives items r ok err;
          same = λ serves. query_kept layout text [] old new plain serves law_old survives items r ok err;
          crash = λ serves. query_crash layout text [] old new plain serves law_old survives;
          clean = survives.clean;
        };
        tables = record {
          unchanged = λ clean has. on_ok (λ v h. shown_same text [] old new v.items (subst (λ s. IsPlain (understood s text)) (sym has) plain) h) r (ok clean);
          rests = λ clean has still. query_rests layout items text [] old new plain has still r (ok clean) (err clean);
          leaves = λ clean has. query_left layout text [] old new plain has survives clean;
          alone = c.query_all.ensures.mode;
          clean = survives.clean;
        };
        at_rest = λ serves. query_answers layout text [] old new plain serves law_old survives items r ok err _ (λ v rest h. rest.schema);
        begins = λ has alone settled are clean. on_ok (λ v h. opens layout old new has alone settled are (shown_same text [] old new v.items (subst (λ s. IsPlain (understood s text)) (sym has) plain) h)) r (ok clean);
      };
    }
