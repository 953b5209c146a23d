use Rattle.std.proofs.Common.{◌≡◌, Some, true, ap, ap₂, subst, subst₂, sym, ◌∙◌}
use Rattle.rows_table.specs.declared.layout.Layout.TheVariants as layouts
use Rattle.protocol.specs.Entries.{Taped}
use Rattle.protocol.specs.Rows.{Vote, vote_for, may_stand}
use Rattle.protocol.specs.Versions.{One}
use Rattle.protocol.specs.Fitting.{Fits, VoteFits}
use Rattle.acceptor_store.specs.Columns.{row_in, columns_with}
use Rattle.acceptor_store.proofs.ColumnLemmas.{back_with}
use Rattle.acceptor_store.proofs.columns.columns_for.Goals as goal

pub returns-clause-back : goal.returns-clause-back
returns-clause-back c =
    let p = c.in-Some.promise in
    let b = c.ballot-ballot.result in
    let tape = c.in_ok-frames.frames.items in
    let row = c.args.row.now in
    let vote : Vote = vote_for b (Taped tape) in
    let promised : Some p ≡ row.promised = c.in-Some.ensures.value in
    let same : c.in-Some-vote.vote.now ≡ vote = ap₂ vote_for (sym c.ballot-ballot.ensures) c.in_ok-frames.ensures.tape in
    let voted : Some vote ≡ row.vote = ap (λ (v : Vote). Some v) (sym same) ∙ c.in-Some-vote.ensures.value in
    let fits : Fits One (Taped tape) = subst (VoteFits One) (sym voted) c.requires.fits in
    let stands : may_stand (Some p) (Some vote) ≡ true = subst₂ (λ x y. may_stand x y ≡ true) (sym promised) (sym voted) c.in-Some-vote.ensures.stands in
    subst₂ (λ x y. row_in layouts.One 0 (columns_with layouts.One x y) ≡ Some (record { promised = x; vote = y })) promised voted
    (back_with p b tape c.round-promised_round.ensures.range c.round.ensures.range c.in_ok-frames.ensures.is_tape fits stands)
