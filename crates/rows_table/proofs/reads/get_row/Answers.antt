use Rattle.std.proofs.Common.{List, [], ◌∷◌, Vec}
use Rattle.std.specs.declared.alloc.Global.{Global}
use Rattle.sqlite_value.specs.Order.{Row}
use Rattle.sqlite.specs.Held.{state}
use Rattle.rows_table.specs.Rows.{whole}
use Rattle.rows_table.specs.Layouts.{get_text}
use Rattle.rows_table.proofs.ReadTexts.{get_is}
use Rattle.rows_table.proofs.GetLemmas.{gets}
use Rattle.rows_table.proofs.PutClauses.{IsSettled, query_serves, query_kept, query_open, query_answers, query_crash}
use Rattle.rows_table.proofs.reads.get_row.Goals as goal

pub returns : goal.returns
returns g c =
    let layout = c.args.layout in
    let text = get_text layout in
    let plain = (get_is layout).plain in
    let old = state g.S.Store c.args.conn.now in
    let new = state g.S.Store c.query_all.new.self in
    let params : List _ = whole c.args.number ∷ [] in
    let items = λ (v : Vec Row Global). v.items in
    let ok = rw (c.params-to_sql.ensures, c.get_text.ensures) at c.query_all.ensures.ok in
    let err = rw (c.params-to_sql.ensures, c.get_text.ensures) at c.query_all.ensures.err in
    let survives = rw (c.params-to_sql.ensures, c.get_text.ensures) at c.query_all.ensures.survives in
    let law_old : IsSettled old = λ db. g.met.S.Store.settled c.args.conn.now.store db in
    record {
      found = λ serves. query_answers layout text params old new plain serves law_old survives items c.query_all.result ok err _
          (λ v rest h. gets layout old new c.args.number v.items rest.schema rest.rows h);
      serving = record {
        serves = λ serves. query_serves layout text params old new plain serves law_old survives items c.query_all.result ok err;
        opened = λ serves. query_open layout text params old new plain serves law_old survives items c.query_all.result ok err;
        same = λ serves. query_kept layout text params old new plain serves law_old survives items c.query_all.result ok err;
        crash = λ serves. query_crash layout text params old new plain serves law_old survives;
        clean = survives.clean;
      };
    }
