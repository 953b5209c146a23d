use Rattle.std.proofs.Common.{rules}
use Rattle.sqlite.specs.Held.{state}
use Rattle.rows_table.specs.declared.layout.Layout.TheVariants.{One}
use Rattle.rows_table.specs.Puts.{columns_of_row}
use Rattle.rows_table.specs.declared.puts.RowVote.{RowVote}
use Rattle.rows_table.proofs.ParamLemmas.{bound_number, bound_packed, of_vote, bytes_of_vote}
use Rattle.rows_table.proofs.TextLemmas.{put_text}
use Rattle.rows_table.proofs.RowPutLemmas.{replaces_row}
use Rattle.rows_table.proofs.PutLemmas.{Replaces}
use Rattle.rows_table.proofs.PutClauses.{IsSettled, serves_on, saved_on, kept_on, crash_on}
use Rattle.rows_table.proofs.puts.put_row.Goals as goal

pub returns : goal.returns
returns g c =
    let e = c.args.row.now in
    let vote = c.as_ref-vote in
    let round = of_vote (λ (v : RowVote). v.round) vote.result e.vote c.map.result vote.ensures.value c.map.ensures.cases (λ v x is. search rules) in
    let owner = of_vote (λ (v : RowVote). v.owner) vote.result e.vote c.map-2.result vote.ensures.value c.map-2.ensures.cases (λ v x is. search rules) in
    let bytes = bytes_of_vote (λ (v : RowVote). v.tape.items) vote.result e.vote c.map-3.result vote.ensures.value c.map-3.ensures.cases (λ v x is. search rules) in
    let old = state g.S.Store c.args.conn.now in
    let new = state g.S.Store c.execute.new.self in
    let replaces : Replaces One put_text e.number (columns_of_row e) = replaces_row e.number _ _ _ _ _ in
    let runs = rw (
      c.params-to_sql.ensures,
      c.params-to_sql-2.ensures,
      c.params-to_sql-3.ensures,
      c.params-to_sql-4.ensures,
      c.params-to_sql-5.ensures,
      c.params-to_sql-6.ensures,
      bound_number c.map.result,
      bound_number c.map-2.result,
      bound_packed c.map-3.result,
      round,
      owner,
      bytes,
    ) at c.execute.ensures.runs in
    let survives = rw (
      c.params-to_sql.ensures,
      c.params-to_sql-2.ensures,
      c.params-to_sql-3.ensures,
      c.params-to_sql-4.ensures,
      c.params-to_sql-5.ensures,
      c.params-to_sql-6.ensures,
      bound_number c.map.result,
      bound_number c.map-2.result,
      bound_packed c.map-3.result,
      round,
      owner,
      bytes,
    ) at c.execute.ensures.survives in
    let law_old : IsSettled old = λ db. g.met.S.Store.settled c.args.conn.now.store db in
    let law_new : IsSettled new = λ db. g.met.S.Store.settled c.execute.new.self.store db in
    record {
      serves = λ serves. serves_on One put_text e.number _ replaces old new serves law_old law_new c.execute.result runs survives;
      saved = λ serves. saved_on One put_text e.number _ replaces old new serves law_old law_new c.execute.result runs survives;
      err = λ serves. kept_on One put_text e.number _ replaces old new serves law_old law_new c.execute.result runs survives;
      crash = λ serves. crash_on One put_text e.number _ replaces old new serves law_old law_new c.execute.result runs survives;
      clean = c.execute.ensures.survives.clean;
    }
