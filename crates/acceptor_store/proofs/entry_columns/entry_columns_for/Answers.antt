use Rattle.std.proofs.Common.{◌≡◌, Some, true, ap, ap₂, subst₂, sym, ◌∙◌}
use Rattle.rows_table.specs.declared.layout.Layout.TheVariants.{Two}
use Rattle.tape_frames.specs.Entries.{lent_entry}
use Rattle.protocol.specs.Entries.{Entry}
use Rattle.protocol.specs.Rows.{Vote, vote_for, may_stand}
use Rattle.acceptor_store.specs.Columns.{row_in, columns_with}
use Rattle.acceptor_store.proofs.EntryColumnLemmas.{back_with}
use Rattle.acceptor_store.proofs.entry_columns.entry_columns_for.Goals as goal

pub returns-clause-back : goal.returns-clause-back
returns-clause-back c origin =
    let p = c.in-Some.promise in
    let b = c.ballot-ballot.result in
    let e : Entry = lent_entry c.entry-entry.result in
    let vote : Vote = vote_for b e in
    let promised : Some p ≡ c.args.row.now.promised = c.in-Some.ensures.value in
    let same : c.in-Some-vote.vote.now ≡ vote = ap₂ vote_for (sym c.ballot-ballot.ensures) (sym c.entry-entry.ensures) in
    let voted : Some vote ≡ c.args.row.now.vote = ap (λ (v : Vote). Some v) (sym same) ∙ c.in-Some-vote.ensures.value in
    let stands : may_stand (Some p) (Some vote) ≡ true = subst₂ (λ x y. may_stand x y ≡ true) (sym promised) (sym voted) c.in-Some-vote.ensures.stands in
    subst₂ (λ x y. row_in (Two origin) 0 (columns_with (Two origin) x y) ≡ Some (record { promised = x; vote = y })) promised voted
    (back_with origin p b e c.entries_come_back.ensures c.round-promised_round.ensures.range c.round-round.ensures.range c.len-length.ensures.is_entry stands)
