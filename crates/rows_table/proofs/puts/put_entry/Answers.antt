use Rattle.std.proofs.Common.{rules}
use Rattle.sqlite.specs.Held.{state}
use Rattle.rows_table.specs.declared.layout.Layout.TheVariants.{Two}
use Rattle.rows_table.specs.Entries.{columns_of_entry}
use Rattle.rows_table.specs.declared.entry_table.EntryVote.{EntryVote}
use Rattle.rows_table.proofs.ParamLemmas.{bound_number, bound_packed, of_vote, bytes_of_vote}
use Rattle.rows_table.proofs.EntryPutLemmas.{put_text, replaces_entry}
use Rattle.rows_table.proofs.PutLemmas.{Replaces}
use Rattle.rows_table.proofs.PutClauses.{IsSettled, serves_on, saved_on, kept_on, crash_on}
use Rattle.rows_table.proofs.puts.put_entry.Goals as goal

pub returns : goal.returns
returns g c origin =
    let e = c.args.entry.now in
    let vote = c.as_ref-vote in
    let round = of_vote (λ (v : EntryVote). v.round) vote.result e.vote c.map.result vote.ensures.value c.map.ensures.cases (λ v x is. search rules) in
    let owner = of_vote (λ (v : EntryVote). v.owner) vote.result e.vote c.map-2.result vote.ensures.value c.map-2.ensures.cases (λ v x is. search rules) in
    let length = of_vote (λ (v : EntryVote). v.length) vote.result e.vote c.map-3.result vote.ensures.value c.map-3.ensures.cases (λ v x is. search rules) in
    let bytes = bytes_of_vote (λ (v : EntryVote). v.packed.items) vote.result e.vote c.map-4.result vote.ensures.value c.map-4.ensures.cases (λ v x is. search rules) in
    let old = state g.S.Store c.args.conn.now in
    let new = state g.S.Store c.execute.new.self in
    let replaces : Replaces (Two origin) put_text e.number (columns_of_entry e) = replaces_entry origin e.number _ _ _ _ _ _ in
    let runs = rw (
      c.params-to_sql.ensures,
      c.params-to_sql-2.ensures,
      c.params-to_sql-3.ensures,
      c.params-to_sql-4.ensures,
      c.params-to_sql-5.ensures,
      c.params-to_sql-6.ensures,
      c.params-to_sql-7.ensures,
      bound_number c.map.result,
      bound_number c.map-2.result,
      bound_number c.map-3.result,
      bound_packed c.map-4.result,
      round,
      owner,
      length,
      bytes,
    ) at c.execute.ensures.runs in
    let survives = rw (
      c.params-to_sql.ensures,
      c.params-to_sql-2.ensures,
      c.params-to_sql-3.ensures,
      c.params-to_sql-4.ensures,
      c.params-to_sql-5.ensures,
      c.params-to_sql-6.ensures,
      c.params-to_sql-7.ensures,
      bound_number c.map.result,
      bound_number c.map-2.result,
      bound_number c.map-3.result,
      bound_packed c.map-4.result,
      round,
      owner,
      length,
      bytes,
    ) at c.execute.ensures.survives in
    let law_old : IsSettled old = λ db. g.met.S.Store.settled c.args.conn.now.store db in
    let law_new : IsSettled new = λ db. g.met.S.Store.settled c.execute.new.self.store db in
    record {
      serves = λ serves. serves_on (Two origin) put_text e.number _ replaces old new serves law_old law_new c.execute.result runs survives;
      saved = λ serves. saved_on (Two origin) put_text e.number _ replaces old new serves law_old law_new c.execute.result runs survives;
      err = λ serves. kept_on (Two origin) put_text e.number _ replaces old new serves law_old law_new c.execute.result runs survives;
      crash = λ serves. crash_on (Two origin) put_text e.number _ replaces old new serves law_old law_new c.execute.result runs survives;
      clean = c.execute.ensures.survives.clean;
    }
