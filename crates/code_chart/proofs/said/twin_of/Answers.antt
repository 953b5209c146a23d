use Rattle.std.proofs.Common.{ℕ, List, sym, ap, ◌∙◌, arith}
use Rattle.code_table.specs.Tables.{mean}
use Rattle.slug_reader.specs.Positions.{first}
use Rattle.code_chart.specs.Cells.{twin_at}
use Rattle.code_chart.proofs.Chart.{all_are, first_more}
use Rattle.code_chart.proofs.said.twin_of.Goals as goal

pub loop-other-preserved : goal.loop-other-preserved
loop-other-preserved c =
    let f = twin_at (mean c.args.table.now) c.args.frame c.args.word.now in
    c.earlier-twin.ensures ∙ rw (c.loop-other.invariant, c.twin_at.ensures) (sym (first_more f c.loop-other.other))

pub returns : goal.returns
returns c =
    c.loop-other.invariant
    ∙ ap (λ (frames : List ℕ). first (twin_at (mean c.args.table.now) c.args.frame c.args.word.now) frames)
    (all_are c.loop-other.other (omega (arith, c.loop-other-test.false, c.loop-other.auto.other-end)))
