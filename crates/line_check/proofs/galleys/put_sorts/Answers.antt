use Rattle.line_check.specs.Galley.{sort_text}
use Rattle.streams.proofs.Parts.{at_err, stopped_part}
use Rattle.line_check.proofs.galleys.put_sorts.Goals as goal

pub returns-in_err-put_sort-clause-err : goal.returns-in_err-put_sort-clause-err
returns-in_err-put_sort-clause-err g c =
    at_err c.from_residual.result
    (stopped_part sort_text c.args.sorts.now c.loop-sort.sort-index c.sort-item.result c.sort-item.result (g.W.Write.contents c.args.out.now) (g.W.Write.contents c.loop-sort.out) (g.W.Write.contents c.put_sort.new.out)
    c.loop-sort-test.true c.sort-item.is c.loop-sort.invariant c.in_err-put_sort.ensures.err)
