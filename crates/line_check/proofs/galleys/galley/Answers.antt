use Rattle.streams.proofs.Parts.{at_err}
use Rattle.line_check.proofs.Written.{wrote_slug, stopped_slug}
use Rattle.line_check.proofs.galleys.galley.Goals as goal

pub returns-in_err-put_slug-clause-err : goal.returns-in_err-put_slug-clause-err
returns-in_err-put_slug-clause-err g c =
    at_err c.from_residual.result
    (stopped_slug c.args.slugs.now c.loop-before.before c.index-slugs-before.result (g.W.Write.contents c.args.out.now) (g.W.Write.contents c.loop-before.out) (g.W.Write.contents c.put_slug.new.out)
    c.loop-before-test.true c.index-slugs-before.is c.loop-before.invariant c.in_err-put_slug.ensures.err)

pub loop-before-preserved : goal.loop-before-preserved
loop-before-preserved g c =
    wrote_slug c.args.slugs.now c.loop-before.before c.index-slugs-before.result (g.W.Write.contents c.args.out.now) (g.W.Write.contents c.loop-before.out) (g.W.Write.contents c.put_slug.new.out)
    c.loop-before-test.true c.index-slugs-before.is c.loop-before.invariant c.in_ok-put_slug.ensures.ok
