use Rattle.std.proofs.Common.{rules, ◌∷◌, Ok}
use Rattle.sqlite.specs.State.{ExecutesInside}
use Rattle.sqlite.specs.Held.{state}
use Rattle.rows_table.specs.Staging.{StagesRow}
use Rattle.rows_table.proofs.WithinLemmas.{ran}
use Rattle.rows_table.specs.declared.layout.Layout.TheVariants.{One}
use Rattle.rows_table.specs.Rows.{whole}
use Rattle.rows_table.specs.Puts.{columns_of_row}
use Rattle.rows_table.specs.declared.puts.RowVote.{RowVote}
use Rattle.rows_table.proofs.ParamLemmas.{bound_number, bound_packed, of_vote, bytes_of_vote}
use Rattle.rows_table.proofs.TextLemmas.{put_text}
use Rattle.rows_table.proofs.RowPutLemmas.{replaces_row}
use Rattle.rows_table.proofs.StagingLemmas.{stages}
use Rattle.rows_table.proofs.staging.stage_row.Goals as goal

pub returns : goal.returns
returns g c =
    let gives = c.in_ok-execute.ensures in
    ran g.S.Store (StagesRow One c.args.row.now.number (columns_of_row c.args.row.now)) tt _ _ c.in_ok-execute.field-0 c.args.tx.now c.execute.new.self gives.same_reference gives.survives gives.runs
    (λ clean had.
    let e = c.args.row.now in
    let vote = c.as_ref-vote in
    let round = of_vote (λ (v : RowVote). v.round) vote.result e.vote c.map.result vote.ensures.value c.map.ensures.cases (λ v x is. search rules) in
    let owner = of_vote (λ (v : RowVote). v.owner) vote.result e.vote c.map-2.result vote.ensures.value c.map-2.ensures.cases (λ v x is. search rules) in
    let bytes = bytes_of_vote (λ (v : RowVote). v.tape.items) vote.result e.vote c.map-3.result vote.ensures.value c.map-3.ensures.cases (λ v x is. search rules) in
    let puts : ExecutesInside 0 put_text (whole e.number ∷ columns_of_row e) (state g.S.Store c.args.tx.now.conn.now) (state g.S.Store c.execute.new.self.conn.now) (Ok c.in_ok-execute.field-0) = rw (
      c.params-to_sql.ensures,
      c.params-to_sql-2.ensures,
      c.params-to_sql-3.ensures,
      c.params-to_sql-4.ensures,
      c.params-to_sql-5.ensures,
      c.params-to_sql-6.ensures,
      bound_number c.map.result,
      bound_number c.map-2.result,
      bound_packed c.map-3.result,
      round,
      owner,
      bytes,
    ) at (gives.runs clean had.inside) in
    stages One put_text e.number (columns_of_row e)
    (replaces_row e.number _ _ _ _ _) (state g.S.Store c.args.tx.now.conn.now) (state g.S.Store c.execute.new.self.conn.now) c.in_ok-execute.field-0 had puts)
