use Rattle.std.proofs.Common.{[], ◌≡◌, OnOk, OnErr}
use Rattle.sqlite.specs.State.{HasCleanDisk, IsUnchanged}
use Rattle.sqlite.specs.Held.{state}
use Rattle.rows_table.specs.Tables.{layout_schema}
use Rattle.rows_table.specs.Layouts.{all_text}
use Rattle.rows_table.specs.Rows.{Serves}
use Rattle.rows_table.specs.Cursor.{OnlyReads, WritesNothing}
use Rattle.rows_table.proofs.ReadTexts.{all_is}
use Rattle.rows_table.proofs.AllLemmas.{lists, saw_first, mapped, as_answered}
use Rattle.rows_table.proofs.RisingLemmas.{opens}
use Rattle.rows_table.proofs.PutClauses.{IsSettled, was_early, reads_in, reads_open, reads_serving, reading_serves, reading_kept, reading_open, reading_has, reading_rests, query_crash, query_left}
use Rattle.rows_table.proofs.reads.visit_rows.Goals as goal

pub returns : goal.returns
returns g c =
    let layout = c.args.layout in
    let text = all_text layout in
    let plain = (all_is layout).plain in
    let old = state g.S.Store c.args.conn.now in
    let new = state g.S.Store c.each_row.new.conn in
    let r = c.each_row.result in
    let gives = rw c.all_text.ensures at c.each_row.ensures in
    let survives = gives.survives in
    let law_old : IsSettled old = λ db. g.met.S.Store.settled c.args.conn.now.store db in
    let reads : old.now.schema ≡ layout_schema layout → OnlyReads old text = reads_in layout text old plain in
    let serving : Serves layout old → HasCleanDisk new → OnlyReads old text =
    λ serves clean. reads_serving layout text old plain serves (was_early old new survives.clean clean) in
    let same : Serves layout old → HasCleanDisk new → OnOk r (IsUnchanged old new) = λ serves clean. gives.same clean (serving serves clean) in
    let err : Serves layout old → HasCleanDisk new → OnErr r (WritesNothing old new) = λ serves clean. gives.err clean (serving serves clean) in
    record {
      listed = λ clean has. mapped (λ all h sure. let shown = h sure in (shown.0, lists layout old new shown.0 has shown.1, shown.2)) r (gives.all clean (reads has));
      enough = gives.enough;
      front = λ clean has. saw_first g.T.TableVisitor.saw c.args.visitor.now c.each_row.new.visitor layout old has (gives.front clean (reads_open layout text old plain has));
      only = gives.only;
      reads = record {
        serving = record {
          serves = λ serves. reading_serves layout old new survives.clean serves r (same serves) (err serves);
          opened = λ serves. reading_open layout old new survives.clean serves r (same serves) (err serves);
          same = λ serves. reading_kept layout old new survives.clean serves r (same serves) (err serves);
          crash = λ serves. query_crash layout text [] old new plain serves law_old survives;
          clean = survives.clean;
        };
        tables = record {
          unchanged = λ clean has. gives.same clean (reads has);
          rests = λ clean has still. reading_rests old new still r (gives.same clean (reads has)) (gives.err clean (reads has));
          leaves = λ clean has. query_left layout text [] old new plain has survives clean;
          alone = gives.mode;
          clean = survives.clean;
        };
        at_rest = λ serves. reading_has layout old new survives.clean serves r (same serves) (err serves);
        begins = λ has alone settled are clean. as_answered (opens layout old new has alone settled are) r (gives.same clean (reads has));
      };
    }
